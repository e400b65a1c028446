use Rattle.std.proofs.Common.{rules}
use native.Mathlib.Omega.{arith}
use Prim.Native.Nat.{◌*◌}
use mathlib.Core.Path.{sym, ap, ◌∙◌}
use lib.ListN.{length, length-take}
use Rattle.capture.specs.Answer.{commands_seen}
use Rattle.records.proofs.Written.{length_written}
use Rattle.capture.proofs.Refusals.{count_taken, capture_refused, capture_judged}
use Rattle.capture.proofs.trace.judge_capture.Goals as goal

pub returns-in_err-count : goal.returns-in_err-count
returns-in_err-count c =
    capture_refused c.args.t c.args.capture.now c.args.commands.now _ _ (sym c.check_capture.ensures ∙ c.in_err-count.was) (search rules)

pub write_commands-requires : goal.write_commands-requires
write_commands-requires c =
    let d = count_taken c.args.capture.now (length c.args.commands.now) c.args.t.edition _ _ c.check_capture.ensures c.in_ok-count.was in
    (d.0.none, d.0.fits)

pub overflow_mul-bytes : goal.overflow_mul-bytes
overflow_mul-bytes c =
    let d = count_taken c.args.capture.now (length c.args.commands.now) c.args.t.edition _ _ c.check_capture.ensures c.in_ok-count.was in
    omega (arith, d.1, d.0.few, d.0.commands)

pub slice_bounds-verdict_on-end : goal.slice_bounds-verdict_on-end
slice_bounds-verdict_on-end c =
    let d = count_taken c.args.capture.now (length c.args.commands.now) c.args.t.edition _ _ c.check_capture.ensures c.in_ok-count.was in
    omega (arith, d.1, d.0.fits, ap length c.write_commands.ensures, length_written (commands_seen c.args.capture.now) c.args.commands.now d.0.fits)

pub slice_bounds-verdict_on-end-2 : goal.slice_bounds-verdict_on-end-2
slice_bounds-verdict_on-end-2 c =
    let d = count_taken c.args.capture.now (length c.args.commands.now) c.args.t.edition _ _ c.check_capture.ensures c.in_ok-count.was in
    omega (arith, length-take (8 * c.in_ok-count.count) c.write_commands.new.commands, d.1, d.0.fits, ap length c.write_commands.ensures, length_written (commands_seen c.args.capture.now) c.args.commands.now d.0.fits)

pub verdict_on-v-requires : goal.verdict_on-v-requires
verdict_on-v-requires c =
    let d = count_taken c.args.capture.now (length c.args.commands.now) c.args.t.edition _ _ c.check_capture.ensures c.in_ok-count.was in
    (c.requires, omega (arith, length-take (8 * c.in_ok-count.count) c.write_commands.new.commands, d.1, d.0.few, d.0.commands))

pub returns : goal.returns
returns c =
    capture_judged c.args.t c.args.capture.now c.args.commands.now _ c.verdict_on-v.result c.write_commands.new.commands
    (sym c.check_capture.ensures ∙ c.in_ok-count.was) c.write_commands.ensures c.verdict_on-v.ensures
