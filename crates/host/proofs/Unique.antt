-- Each exported call's promise leaves one possible result and one possible content of each buffer it was lent, refused or not.
-- Assumes nothing.
use Prim.Native.Nat.{ℕ}
use mathlib.Core.Path.{◌≡◌, sym, ap, ◌∙◌}
use mathlib.Core.List.{List}
use Rattle.records.specs.Told.{Wrote}
use Rattle.records.specs.Table.{read_table, write_table, write_group_table}
use Rattle.records.specs.Transaction.{transaction, arriving, read_transaction, write_transaction, read_later, write_later, list_of}
use Rattle.records.specs.Command.{command, kind_of, read_command, write_command}
use Rattle.records.proofs.Unique.{one_answer}
use Rattle.stamps.specs.Record.{capture_record, read_capture_record, write_capture_record}
use Rattle.lists.specs.Check.{check_list, check_bytes}
use Rattle.promises.specs.Admit.{admitted}
use Rattle.promises.specs.Judging.{judging}
use Rattle.promises.specs.Tracing.{capturing}
use Rattle.promises.specs.Bounds.{bounding}
use Rattle.promises.specs.Transactions.{reading}
use Rattle.promises.specs.Running.{starting, running}
use Rattle.promises.proofs.Unique.{only as desk-only}
use Rattle.answers.specs.declared.answer.Answer.{Answer}
use Rattle.answers.specs.Answers.{of_written, of_table, of_transaction, of_command, of_capture_record, of_read, of_build, of_bound, shortest_of, start_of, of_run, run_of}
use Rattle.verdict_answers.specs.Verdicts.{verdict_of, pattern_of, capture_of, serves_of}
use Rattle.host.specs.Promises.{Writes}
use Rattle.host.specs.Only.{OnlyRecord, Only}

-- made of equals by one definition
made : {A B : Type 0} (f : A → B) (u v : A) (x y : B) → u ≡ v → x ≡ f u → y ≡ f v → x ≡ y
made f u v x y e p q = p ∙ ap f e ∙ sym q

one_written : (w : Wrote) (x y : Answer) (b d : List ℕ) → Writes w x b → Writes w y d → (x ≡ y) × (b ≡ d)
one_written w x y b d p q = (one_answer (of_written w.answer) x y p.0 q.0, one_answer w.buffer b d p.1 q.1)

pub only_record : (s : List ℕ) → OnlyRecord s
only_record s =
    record {
      table_read = one_answer (of_table (read_table s));
      table_written = λ l. one_written (write_table l s);
      group_table_written = λ l. one_written (write_group_table l s);
      transaction_read = one_answer (of_transaction (read_transaction s));
      transaction_written = λ kind start bi bc. one_written (write_transaction (transaction kind start bi bc) s);
      later_read = one_answer (of_transaction (read_later s));
      later_written = λ kind start bi bc arrival. one_written (write_later (arriving (transaction kind start bi bc) arrival) s);
      command_read = one_answer (of_command (read_command s));
      command_written = λ cycle kind bank number. one_written (write_command (command cycle (kind_of kind) bank number) s);
      capture_record_read = one_answer (of_capture_record (read_capture_record s));
      capture_record_written = λ stamp kind bank. one_written (write_capture_record (capture_record stamp kind bank) s);
    }

pub only : (expected : ℕ) (table : List ℕ) → Only expected table
only expected table =
    record {
      judge = λ s. one_answer (verdict_of (judging (admitted expected table) s));
      judge_pattern = λ s L x y p q. made pattern_of p.0 q.0 x y ((desk-only expected table).judge_pattern s L p.0 q.0 p.1 q.1) p.2 q.2;
      judge_capture = λ s b₀ x y b d p q.
          let w = capturing (admitted expected table) s b₀ in
          (one_answer (capture_of w.answer) x y p.0 q.0, one_answer w.buffer b d p.1 q.1);
      shortest_pattern = λ type bi bc most b₀ x y b d p q.
          let z = (desk-only expected table).shortest_pattern type bi bc most b₀ p.0 q.0 b d p.1 q.1 in
          (made shortest_of p.0 q.0 x y z.0 p.2 q.2, z.1);
      bound = λ bi bc. one_answer (of_bound (bounding (admitted expected table) bi bc));
      read_transactions = λ later s l x y b d p q.
          let w = reading later (admitted expected table) s l in
          (one_answer (of_read w.answer) x y p.0 q.0, one_answer w.list b d p.1 q.1);
      schedule = λ l b₀ f₀ x y b d f g p q.
          let k = (desk-only expected table).schedule l b₀ f₀ p.0 q.0 b d f g p.1 q.1 in
          (made of_build p.0 q.0 x y k.0 p.2 q.2, k.1, k.2);
      schedule_bytes = λ later s b₀ f₀ x y b d f g p q.
          let k = (desk-only expected table).schedule_bytes later s b₀ f₀ p.0 q.0 b d f g p.1 q.1 in
          (made of_build p.0 q.0 x y k.0 p.2 q.2, k.1, k.2);
      serves = λ l s x y p q. made serves_of p.0 q.0 x y ((desk-only expected table).serves l s p.0 q.0 p.1 q.1) p.2 q.2;
      serves_bytes = λ later b s x y p q. made serves_of p.0 q.0 x y ((desk-only expected table).serves_bytes later b s p.0 q.0 p.1 q.1) p.2 q.2;
      start = one_answer (start_of (starting (admitted expected table)));
      run = λ c₀ l n b₀ x y c e b d p q.
          let w = running (λ τ. check_list τ l) (admitted expected table) c₀ l n b₀ in
          (one_answer (of_run w.told.answer) x y p.0 q.0, one_answer w.told.controller c e p.1 q.1, one_answer w.buffer b d p.2 q.2);
      run_bytes = λ later c₀ s n b₀ x y b d p q.
          let w = running (λ τ. check_bytes later τ s) (admitted expected table) c₀ (list_of later s) n b₀ in
          (one_answer (run_of w.told) x y p.0 q.0, one_answer w.buffer b d p.1 q.1);
    }
