mod PackLaws
mod NameLaws
