-- A list cut into pieces, none refused, is run as the whole list.
-- Assumes nothing.
use Rattle.std.specs.Prelude.{Ok}
use Prim.Native.Nat.{ℕ, ◌+◌, ◌*◌, ◌≤◌}
use mathlib.Core.Bool.{true}
use mathlib.Core.Path.{◌≡◌, refl, sym, ap, ◌∙◌, subst}
use mathlib.Core.List.{List, [], ◌∷◌, ◌++◌, map}
use lib.ListN.{length, take}
use Rattle.records.specs.Table.{Accepted}
use Rattle.records.specs.Told.{over}
use Rattle.records.specs.Transaction.{list_fits}
use Rattle.records.specs.declared.table.Table.{Table}
use Rattle.records.specs.declared.transaction.Transaction.{Transaction}
use Rattle.rules.specs.declared.state.State.{State}
use Rattle.rules.specs.State.{fresh}
use Rattle.rules.specs.Run.{served, Ran as RanTo, run}
use Rattle.rules.specs.Pieces.{lend, lent_run, Piece, whole, in_pieces, InTime, PiecesKept}
use Rattle.rules.proofs.runs.Lent.{run_lent}
use Rattle.rules.proofs.shown.Built.{run_ends}
use Rattle.rules.proofs.runs.Pieces.{run_counted, pieces_kept}
use Rattle.controller.specs.declared.controller.Controller.{Controller}
use Rattle.controller.specs.declared.run.RunReport.{RunReport}
use Rattle.controller.specs.Controller.{tells, kept, fresh_controller}
use Rattle.controller.specs.Run.{RunLeft, written, ran_left, run_controller}
use Rattle.controller.specs.Pieces.{Lot, all_of, all_cycles, AllRan, last_left, all_written, AsWhole}
use Rattle.controller.proofs.Inverse.{Held, tells_kept, told_held}
use Rattle.controller.proofs.Written.{written_append, written_at}
use Rattle.controller.proofs.NotRefused.{not_refused}
use Rattle.controller.proofs.Halves.{lent_held, ran}
use Rattle.controller.proofs.Fresh.{fresh_ranged, fresh_told}

abbrev piece_of : Lot → Piece
piece_of p = record { more = p.more; count = p.count }

abbrev pieces : List Lot → List Piece
pieces ps = map piece_of ps

whole_is : (ps : List Lot) → whole (pieces ps) ≡ all_of ps
whole_is [] = refl
whole_is (p ∷ ps) = ap (λ (l : List Transaction). p.more ++ l) (whole_is ps)

pieces_end : (qs : List Lot) (p : Lot) → pieces (qs ++ p ∷ []) ≡ pieces qs ++ piece_of p ∷ []
pieces_end [] p = refl
pieces_end (q ∷ qs) p = ap (λ (l : List Piece). piece_of q ∷ l) (pieces_end qs p)

module _ (τ : Table) where
  abbrev runs : Controller → List Transaction → ℕ → List ℕ → RunLeft
  runs c l n b = run_controller c τ l n b

  -- what a run from what a state is told by leaves, if it is not refused
  pub one_ran : (l : List Transaction) (s : State) → Held s → (n : ℕ) (b : List ℕ) (x : RunReport) → (run_controller (kept s) τ l n b).told.answer ≡ Ok x
      → (run_controller (kept s) τ l n b ≡ ran_left τ.edition (lent_run n τ l s) b)
      × (x.commands ≡ length (lent_run n τ l s).history) × (x.cycles ≡ (lent_run n τ l s).cycles)
  one_ran l s h n b x e =
      subst (λ (u : State). (run_controller (kept s) τ l n b ≡ ran_left τ.edition (lent_run n τ l u) b) × (x.commands ≡ length (lent_run n τ l u).history) × (x.cycles ≡ (lent_run n τ l u).cycles))
      (tells_kept s h) (let p = ran τ l (kept s) n b x e in (p.1, p.2, p.3))

  in_time_lem : (l : List Transaction) (s : State) → Held s → (p : Lot) → (run_controller (kept s) τ (l ++ p.more) p.count p.buffer).told.answer ≡ Ok p.report
      → InTime τ (piece_of p ∷ []) l s
  in_time_lem l s h p e =
      let z = (ran τ (l ++ p.more) (kept s) p.count p.buffer p.report e).0 in
      let t = not_refused τ (l ++ p.more) (tells (kept s)) p.count (length p.buffer) z in
      (subst (λ (u : State). InTime τ (piece_of p ∷ []) l u) (tells_kept s h) (t.2, tt))

  -- of the pieces, from a state after l was lent
  record Cut (ps : List Lot) (l : List Transaction) (s : State) (c : Controller) : Type 0 where
    in_time : InTime τ (pieces ps) l s
    controller : last_left runs ps l c ≡ kept (in_pieces τ (pieces ps) l s).state
    bytes : all_written runs ps l c ≡ written (in_pieces τ (pieces ps) l s).history
    cycles : all_cycles ps ≡ (in_pieces τ (pieces ps) l s).cycles

  cut : (ps : List Lot) (l : List Transaction) (s : State) → Held s → (c : Controller) → c ≡ kept s → AllRan runs ps l c → Cut ps l s c
  cut [] l s h c k a = record { in_time = tt; controller = k; bytes = refl; cycles = refl }
  cut (p ∷ ps) l s h c k a =
      let e : (runs (kept s) (l ++ p.more) p.count p.buffer).told.answer ≡ Ok p.report =
      subst (λ (d : Controller). (runs d (l ++ p.more) p.count p.buffer).told.answer ≡ Ok p.report) k a.0 in
      let o = one_ran (l ++ p.more) s h p.count p.buffer p.report e in
      let left : runs c (l ++ p.more) p.count p.buffer ≡ ran_left τ.edition r p.buffer =
      ap (λ (d : Controller). runs d (l ++ p.more) p.count p.buffer) k ∙ o.0 in
      let rest = cut ps (l ++ p.more) r.state (lent_held τ (l ++ p.more) p.count s h)
      (runs c (l ++ p.more) p.count p.buffer).told.controller (ap (λ (w : RunLeft). w.told.controller) left) a.1 in
      record {
        in_time = ((in_time_lem l s h p e).0, rest.in_time);
        controller = rest.controller;
        bytes = ap (λ (w : RunLeft). take (8 * p.report.commands) w.buffer ++ others) left
            ∙ (ap (λ (m : ℕ). take (8 * m) (over (written r.history) p.buffer) ++ others) o.1
            ∙ (ap (λ (y : List ℕ). y ++ others) (written_at r.history p.buffer)
            ∙ (ap (λ (y : List ℕ). written r.history ++ y) rest.bytes
            ∙ sym (written_append (in_pieces τ (pieces ps) (l ++ p.more) r.state).history r.history))));
        cycles = ap (λ (m : ℕ). m + all_cycles ps) o.2 ∙ ap (λ (m : ℕ). r.cycles + m) rest.cycles;
      }
    where
      r : RanTo
      r = lent_run p.count τ (l ++ p.more) s

      others : List ℕ
      others = all_written runs ps (l ++ p.more) (runs c (l ++ p.more) p.count p.buffer).told.controller

  pub fresh_held : Held (fresh τ)
  fresh_held = subst (λ (s : State). Held s) (fresh_told τ) (told_held (fresh_controller τ) (fresh_ranged τ))

  pub as_whole : Accepted τ → (ps : List Lot) → list_fits τ (all_of ps) ≡ true → AsWhole runs (fresh_controller τ) ps
  as_whole acc ps fit =
      record {
        alike = λ a n b x y z.
            let w = cut ps [] (fresh τ) fresh_held (fresh_controller τ) refl a in
            let o = one_ran (all_of ps) (fresh τ) fresh_held n b x y in
            let many : (lent_run n τ (all_of ps) (fresh τ)).cycles ≡ (in_pieces τ (pieces ps) [] (fresh τ)).cycles = sym o.2 ∙ (sym z ∙ w.cycles) in
            let all : in_pieces τ (pieces ps) [] (fresh τ) ≡ lent_run n τ (all_of ps) (fresh τ) =
            ((kept_by a).one_run
            ∙ (ap (λ (l : List Transaction). lent_run (in_pieces τ (pieces ps) [] (fresh τ)).cycles τ l (fresh τ)) (whole_is ps)
            ∙ (ap (λ (k : ℕ). lent_run k τ (all_of ps) (fresh τ)) (sym many)
            ∙ sym (run_counted n τ (all_of ps) (lend (length (all_of ps)) (fresh τ)) [])))) in (
              w.controller ∙ (ap (λ (r : RanTo). kept r.state) all ∙ sym (ap (λ (v : RunLeft). v.told.controller) o.0)),
              w.bytes
                  ∙ (ap (λ (r : RanTo). written r.history) all
                  ∙ (sym (written_at (lent_run n τ (all_of ps) (fresh τ)).history b)
                  ∙ (ap (λ (m : ℕ). take (8 * m) (over (written (lent_run n τ (all_of ps) (fresh τ)).history) b)) (sym o.1)
                  ∙ sym (ap (λ (v : RunLeft). take (8 * x.commands) v.buffer) o.0)))),
            );
        as_many = λ a b x y.
            let w = cut ps [] (fresh τ) fresh_held (fresh_controller τ) refl a in
            let o = one_ran (all_of ps) (fresh τ) fresh_held (all_cycles ps) b x y in
            w.cycles
            ∙ (ap (λ (r : RanTo). r.cycles) (kept_by a).one_run
            ∙ (ap (λ (l : List Transaction). (lent_run (in_pieces τ (pieces ps) [] (fresh τ)).cycles τ l (fresh τ)).cycles) (whole_is ps)
            ∙ (ap (λ (k : ℕ). (lent_run k τ (all_of ps) (fresh τ)).cycles) (sym w.cycles) ∙ sym o.2)));
        to_end = λ a qs p e k n big b x y.
            let w = cut ps [] (fresh τ) fresh_held (fresh_controller τ) refl a in
            let end = (kept_by a).ends (pieces qs) (piece_of p) (ap pieces e ∙ pieces_end qs p) k in
            let all = (kept_by a).to_end n end (lent_ends n big) ∙ ap (λ (l : List Transaction). lent_run n τ l (fresh τ)) (whole_is ps) in
            let o = one_ran (all_of ps) (fresh τ) fresh_held n b x y in w.cycles ∙ (ap (λ (r : RanTo). r.cycles) all ∙ sym o.2);
      }
    where
      kept_by : AllRan runs ps [] (fresh_controller τ) → PiecesKept τ (pieces ps)
      kept_by a =
          pieces_kept τ acc (pieces ps) (subst (λ (l : List Transaction). list_fits τ l ≡ true) (sym (whole_is ps)) fit)
          (cut ps [] (fresh τ) fresh_held (fresh_controller τ) refl a).in_time

      lent_ends : (n : ℕ) → 100000000 ≤ n → served τ (whole (pieces ps)) (lent_run n τ (whole (pieces ps)) (fresh τ)).state ≡ true
      lent_ends n big =
          subst (λ (l : List Transaction). served τ l (lent_run n τ l (fresh τ)).state ≡ true) (sym (whole_is ps))
          (subst (λ (r : RanTo). served τ (all_of ps) r.state ≡ true) (sym (run_lent n (length (all_of ps)) τ (all_of ps) (fresh τ) [])) (run_ends τ acc (all_of ps) fit n big))
