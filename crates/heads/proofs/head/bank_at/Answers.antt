use Rattle.heads.proofs.Standing.{fit_bank, bank_on_lem, bank_round}
use Rattle.heads.proofs.head.bank_at.Goals as goal

pub returns-then-past-banks : goal.returns-then-past-banks
returns-then-past-banks c = bank_on_lem c.args.t c.args.x c.args.k (fit_bank c.args.t c.requires.0 c.args.x c.args.k c.requires.1 c.requires.2) c.requires.2 c.if-past-banks.true

pub returns-else-past-banks : goal.returns-else-past-banks
returns-else-past-banks c = bank_round c.args.t c.args.x c.args.k (fit_bank c.args.t c.requires.0 c.args.x c.args.k c.requires.1 c.requires.2) c.requires.2 c.if-past-banks.false
