use Rattle.rules.proofs.laws.Ranges.{held, ranges}
use Rattle.timing.specs.Kept.{told}
use Rattle.heads.proofs.Laws.{length_from}
use Rattle.sound.specs.Refused.{run_refusal, sound}
use Rattle.refusals.proofs.refused.check_run.Goals as goal

pub is_backed-gone-requires : goal.is_backed-gone-requires
is_backed-gone-requires c = c.requires.0

pub is_sound-sound-requires : goal.is_sound-sound-requires
is_sound-sound-requires c = let h = held c.args.t (ranges c.args.t c.requires.0.table) in (h.banks, h.groups)

pub is_late-late-requires : goal.is_late-late-requires
is_late-late-requires c = c.requires.0.bytes

pub returns : goal.returns
unfolding run_refusal sound told
returns c = rw (c.check_numbers.ensures, c.is_late-late.ensures, c.is_sound-sound.ensures, c.is_over-more.ensures, c.is_backed-gone.ensures, c.left_of-left.ensures, length_from c.args.list.now c.args.n 0, c.requires.1.0, c.requires.1.1)
