-- What every call says of its table, and of a lent run of records.
pub use Rattle.admission.specs.Admit.{expects, expecting, edition_of, no_way, by_length, way_in, LetIn}
unfoldable pub use Rattle.admission.specs.Admit.{admitted}
