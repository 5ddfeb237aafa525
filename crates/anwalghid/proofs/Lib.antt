mod ExportLaws
