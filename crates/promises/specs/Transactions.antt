-- What a reading into a lent run of records answers and leaves.
unfoldable pub use Rattle.decoding.specs.Transactions.{reading, reading_plan}
