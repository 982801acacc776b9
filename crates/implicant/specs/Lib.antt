pub mod Implicant
pub mod ImplicantLaws
