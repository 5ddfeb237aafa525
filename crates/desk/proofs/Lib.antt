mod DeskLaws
