-- A list cut into pieces, run by the public calls and none refused, is run as the whole list.
-- Assumes nothing.
use Rattle.std.specs.Prelude.{Result, Ok, Err}
use Rattle.records.specs.declared.refusal.Refusal.{Refusal}
use Prim.Native.Nat.{ℕ, ◌*◌, ◌/◌}
use native.Mathlib.Omega.{arith}
use mathlib.Core.Bool.{true}
use mathlib.Core.Path.{◌≡◌, refl, sym, ap, ◌∙◌, subst, fun_ext}
use mathlib.Core.List.{List, [], ◌∷◌, ◌++◌}
use lib.ListN.{length, take}
use Rattle.records.specs.Table.{Accepted}
use Rattle.records.specs.Transaction.{later_from, later_in}
use Rattle.records.proofs.Listed.{past_record, first_record}
use Rattle.records.specs.declared.table.Table.{Table}
use Rattle.records.specs.declared.transaction.Transaction.{Transaction}
use Rattle.lists.specs.Check.{check_list, check_bytes}
use Rattle.lists.specs.Packed.{records_of}
use Rattle.lists.proofs.Checks.{bytes_list, fine_fits}
use Rattle.controller.specs.declared.controller.Controller.{Controller}
use Rattle.controller.specs.declared.run.RunReport.{RunReport}
use Rattle.controller.specs.Run.{RunLeft, run_controller}
use Rattle.controller.specs.Pieces.{Lot, all_of, all_cycles, lot_run, AllRan, last_left, all_written, AsWhole}
use Rattle.controller.proofs.Pieces.{as_whole}
use Rattle.promises.specs.Admit.{admitted}
use Rattle.promises.specs.Running.{starting, runs_checked, running}
use Rattle.promises.proofs.Laws.{read_accepted, running_same}
use Rattle.demands.specs.Pieces.{ran_over, ran_over_bytes, PiecesAsWhole}

-- by what `admit` answered
abbrev over : Result Table Refusal → Controller → List Transaction → ℕ → List ℕ → RunLeft
over a c l n b = running (λ τ. check_list τ l) a c l n b

module _ (τ : Table) where
  abbrev runs : Controller → List Transaction → ℕ → List ℕ → RunLeft
  runs c l n b = run_controller c τ l n b

  -- a run that is not refused is the controller's, over a list that fits
  of_ran : (c : Controller) (l : List Transaction) (n : ℕ) (b : List ℕ) (x : RunReport) → (over (Ok τ) c l n b).told.answer ≡ Ok x
      → (over (Ok τ) c l n b ≡ runs c l n b) × (check_list τ l ≡ Ok tt)
  unfolding running runs_checked
  of_ran c l n b x e = on (check_list τ l) e
    where
      on : (d : Result Unit Refusal) → (runs_checked d c τ l n b).told.answer ≡ Ok x → (runs_checked d c τ l n b ≡ run_controller c τ l n b) × (d ≡ Ok tt)
      on (Ok _) e = (refl, refl)
      on (Err y) e = let z : ◌≡◌ {A = ℕ} 0 1 = cc in absurd (omega arith)

  -- the pieces alike
  record Alike (ps : List Lot) (l : List Transaction) (c : Controller) : Type 0 where
    all_ran : AllRan runs ps l c
    last : last_left runs ps l c ≡ last_left (over (Ok τ)) ps l c
    bytes : all_written runs ps l c ≡ all_written (over (Ok τ)) ps l c

  alike : (ps : List Lot) (l : List Transaction) (c : Controller) → AllRan (over (Ok τ)) ps l c → Alike ps l c
  alike [] l c a = record { all_ran = tt; last = refl; bytes = refl }
  alike (p ∷ ps) l c a =
      let o = (of_ran c (l ++ p.more) p.count p.buffer p.report a.0).0 in
      let k = ap (λ (w : RunLeft). w.told.controller) o in
      let rest = alike ps (l ++ p.more) (lot_run (over (Ok τ)) p l c).told.controller a.1 in
      record {
        all_ran = (ap (λ (w : RunLeft). w.told.answer) (sym o) ∙ a.0, subst (λ (d : Controller). AllRan runs ps (l ++ p.more) d) k rest.all_ran);
        last = ap (λ (d : Controller). last_left runs ps (l ++ p.more) d) (sym k) ∙ rest.last;
        bytes = ap (λ (w : RunLeft). take (8 * p.report.commands) w.buffer ++ all_written runs ps (l ++ p.more) w.told.controller) (sym o)
            ∙ ap (λ (y : List ℕ). take (8 * p.report.commands) (lot_run (over (Ok τ)) p l c).buffer ++ y) rest.bytes;
      }

by_table : (a : Result Table Refusal) → ((τ : Table) → a ≡ Ok τ → Accepted τ) → (ps : List Lot) → AsWhole (over a) (starting a).controller ps
unfolding starting running
by_table (Ok τ) acc ps =
    record {
      alike = λ a n b x y z.
          let o = of_ran τ s (all_of ps) n b x y in
          let w = (whole n b x y).alike (same a).all_ran n b x (ran n b x y) z in (
            sym (same a).last ∙ (w.0 ∙ ap (λ (v : RunLeft). v.told.controller) (sym o.0)),
            sym (same a).bytes ∙ (w.1 ∙ ap (λ (v : RunLeft). take (8 * x.commands) v.buffer) (sym o.0)),
          );
      as_many = λ a b x y. (whole (all_cycles ps) b x y).as_many (same a).all_ran b x (ran (all_cycles ps) b x y);
      to_end = λ a qs p e k n big b x y. (whole n b x y).to_end (same a).all_ran qs p e k n big b x (ran n b x y);
    }
  where
    s : Controller
    s = (starting (Ok τ)).controller

    same : AllRan (over (Ok τ)) ps [] s → Alike τ ps [] s
    same a = alike τ ps [] s a

    ran : (n : ℕ) (b : List ℕ) (x : RunReport) → (over (Ok τ) s (all_of ps) n b).told.answer ≡ Ok x → (runs τ s (all_of ps) n b).told.answer ≡ Ok x
    ran n b x y = ap (λ (v : RunLeft). v.told.answer) (sym (of_ran τ s (all_of ps) n b x y).0) ∙ y

    whole : (n : ℕ) (b : List ℕ) (x : RunReport) → (over (Ok τ) s (all_of ps) n b).told.answer ≡ Ok x → AsWhole (runs τ) s ps
    whole n b x y = as_whole τ (acc τ refl) ps (fine_fits τ (all_of ps) (of_ran τ s (all_of ps) n b x y).1)
by_table (Err r) acc ps =
    record {
      alike = λ a n b x y. let z : ◌≡◌ {A = ℕ} 0 1 = cc in absurd (omega arith);
      as_many = λ a b x y. let z : ◌≡◌ {A = ℕ} 0 1 = cc in absurd (omega arith);
      to_end = λ a qs p e k n big b x y. let z : ◌≡◌ {A = ℕ} 0 1 = cc in absurd (omega arith);
    }

-- ---- the bytes of a list's records hold the list, and are run as the list

records_held : (l : List Transaction) → later_from (records_of true l) (length l) 0 ≡ l
unfolding later_from
records_held [] = refl
records_held (x ∷ l) =
    ap (λ (y : Transaction). y ∷ later_from (records_of true (x ∷ l)) (length l) 8) (first_record x)
    ∙ ap (λ (k : List Transaction). x ∷ k) (past_record _ _ _ _ _ _ _ _ (records_of true l) (length l) 0 ∙ records_held l)

length_records : (l : List Transaction) → length (records_of true l) ≡ 8 * length l
length_records [] = refl
length_records (x ∷ l) = omega (arith, length_records l)

records_list : (l : List Transaction) → later_in (records_of true l) ≡ l
records_list l =
    let n : length (records_of true l) / 8 ≡ length l = omega (arith, length_records l) in
    ap (λ (k : ℕ). later_from (records_of true l) k 0) n ∙ records_held l

bytes_as_list : (expected : ℕ) (table : List ℕ) (c : Controller) (l : List Transaction) (n : ℕ) (b : List ℕ) → ran_over expected table c l n b ≡ ran_over_bytes expected table c l n b
bytes_as_list expected table c l n b =
    let s = records_of true l in
    sym (running_same (λ τ. check_bytes true τ s) (λ τ. check_list τ l) (admitted expected table) c (later_in s) l n b
    (λ τ. bytes_list true τ s (omega (arith, length_records l)) ∙ ap (check_list τ) (records_list l)) (records_list l))

pub pieces_as_whole : (expected : ℕ) (table : List ℕ) (ps : List Lot) → PiecesAsWhole expected table ps
pieces_as_whole expected table ps =
    let whole = by_table (admitted expected table) (read_accepted expected table) ps in
    let same : ran_over expected table ≡ ran_over_bytes expected table =
    fun_ext (λ c. fun_ext (λ l. fun_ext (λ n. fun_ext (λ b. bytes_as_list expected table c l n b)))) in
    record {
      records = whole;
      bytes = subst (λ (run : Controller → List Transaction → ℕ → List ℕ → RunLeft). AsWhole run (starting (admitted expected table)).controller ps) same whole;
    }
