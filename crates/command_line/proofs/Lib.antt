pub mod CommandLaws
pub mod FormTexts
pub mod FormLaws
pub mod GrammarLaws
pub mod ReadingLaws
pub mod RefusedForms
pub mod SaturationLaws
