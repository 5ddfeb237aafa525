mod WordLaws
mod ValueLaws
mod GrammarLaws
mod ArgumentLaws
mod MeaningLaws
