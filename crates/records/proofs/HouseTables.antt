-- The house tables are accepted.
-- Assumes nothing.
use mathlib.Core.Path.{refl}
use Rattle.records.specs.Table.{Accepted}
use Rattle.records.specs.House.{table_a, table_b, table_c, table_t, table_d}

pub house_accepted : Accepted table_a × Accepted table_b × Accepted table_c × Accepted table_t × Accepted table_d
house_accepted = (refl, refl, refl, refl, refl)
