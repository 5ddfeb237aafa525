mod TalkLaws
mod StandLaws
