-- What is answered of a schedule and a list is what the request says; and what is built serves its list.
-- Assumes nothing.
use Rattle.std.specs.Prelude.{Result, Ok, Err}
use Rattle.records.specs.declared.refusal.Refusal.{Refusal}
use Prim.Native.Nat.{ℕ, ◌*◌}
use native.Mathlib.Omega.{arith}
use mathlib.Core.Bool.{true}
use mathlib.Core.Path.{◌≡◌, refl, sym, ap, ◌∙◌, subst}
use mathlib.Core.Logic.{◌↔◌, ◌⊎◌}
use mathlib.Core.List.{List, [], ◌∷◌}
use lib.ListN.{length, get_or, take}
use Rattle.records.specs.declared.table.Table.{Table}
use Rattle.records.specs.declared.transaction.Transaction.{Transaction}
use Rattle.records.specs.declared.command.Command.{Command}
use Rattle.records.specs.Table.{Accepted}
use Rattle.records.specs.Transaction.{list_of, list_fits}
use Rattle.records.specs.Command.{commands_in, bytes_of_all}
use Rattle.rules.specs.declared.verdict.Rule.{Rule}
use Rattle.rules.specs.declared.verdict.Verdict.{Verdict as Verdicts}
use Rattle.rules.specs.declared.verdict.Verdict.TheVariants.{Accepted as Passed, Refused as Broken}
use Rattle.rules.specs.CycleRule.{Built as IsBuilt}
use Rattle.rules.specs.Verdict.{judge, Legal}
use Rattle.rules.proofs.shown.Promises.{kept}
use Rattle.judge.specs.Answer.{schedule_refusal}
use Rattle.judge.proofs.Accepts.{judge_accepts}
use Rattle.serves.specs.declared.answer.Served.{Served}
use Rattle.serves.specs.declared.answer.Served.TheVariants.{Serves, Refused as Against, AtFault as Names}
use Rattle.serves.specs.Serves.{OneOutside, DoesTheWork, NoneOutside, NoneBelow, Lowest, Says}
use Rattle.serves.specs.Answer.{ServesAnswers}
use Rattle.serves.proofs.Exactly.{serves_exactly, one_answer}
use Rattle.serves.proofs.BuiltServes.{built_serves}
use Rattle.lists.specs.Check.{check_list, check_bytes}
use Rattle.lists.proofs.Checks.{fine_fits}
use Rattle.promises.specs.Admit.{admitted}
use Rattle.promises.specs.Judging.{judging}
use Rattle.promises.specs.Schedules.{Schedules}
use Rattle.promises.specs.Serving.{ServesChecked, Serving}
use Rattle.promises.specs.Numbers.{Numbers, telling, verdict_values, judged_numbers, served_values, serves_numbers}
use Rattle.promises.proofs.Laws.{read_accepted}
use Rattle.demands.specs.ServesList.{ServesOn, StartServes, ServesOfCalls}
use Rattle.demands.proofs.Judges.{demand_2, told}
use Rattle.demands.proofs.Serves.{bytes_taken, bytes_same}
use Rattle.demands.proofs.Pins.{bytes_fit, built_fine}

-- ---- the case of an answer by its values

serves_case : (a : Served) → served_values a ≡ [] → a ≡ Serves
serves_case Serves h = refl
serves_case (Against x i) h = let z : ◌≡◌ {A = ℕ} 2 0 = ap length h in absurd (omega arith)
serves_case (Names x) h = let z : ◌≡◌ {A = ℕ} 1 0 = ap length h in absurd (omega arith)

names_case : (a : Served) (x : ℕ) → served_values a ≡ x ∷ [] → a ≡ Names x
names_case Serves x h = let z : ◌≡◌ {A = ℕ} 0 1 = ap length h in absurd (omega arith)
names_case (Against y i) x h = let z : ◌≡◌ {A = ℕ} 2 1 = ap length h in absurd (omega arith)
names_case (Names y) x h = ap (λ (l : List ℕ). Names (get_or l 0 0)) h

against_case : (a : Served) (n i : ℕ) → served_values a ≡ n ∷ i ∷ [] → (x : Rule) × (a ≡ Against x i)
against_case Serves n i h = let z : ◌≡◌ {A = ℕ} 0 2 = ap length h in absurd (omega arith)
against_case (Against x j) n i h = (x, ap (λ (l : List ℕ). Against x (get_or l 1 0)) h)
against_case (Names y) n i h = let z : ◌≡◌ {A = ℕ} 1 2 = ap length h in absurd (omega arith)

broken_case : (v : Verdicts) (n i : ℕ) → verdict_values v ≡ n ∷ i ∷ [] → (x : Rule) × (v ≡ Broken x i)
broken_case Passed n i h = let z : ◌≡◌ {A = ℕ} 0 2 = ap length h in absurd (omega arith)
broken_case (Broken x j) n i h = (x, ap (λ (l : List ℕ). Broken x (get_or l 1 0)) h)

valued : (a b : Numbers) → a ≡ b → a.values ≡ b.values
valued a b e = ap (λ (x : Numbers). x.values) e

-- ---- of a table that is read, and a list in which the check finds nothing to refuse

module _ (τ : Table) (l : List Transaction) (s : List ℕ) (z : schedule_refusal (length s) ≡ 0) where
  abbrev rs : List Command
  rs = commands_in s

  accepted : (judging (Ok τ) s ≡ Ok (τ.edition, Passed)) ↔ Legal τ rs
  unfolding judging
  accepted = (λ e. ((judge_accepts τ s).0 e).1, λ h. (judge_accepts τ s).1 (z, h))

  -- what is said, which is told
  said : (r : Result (ℕ × Served) Refusal) → ServesAnswers τ l s r → (a : Served) × Says τ l rs a × (serves_numbers r ≡ telling τ.edition (served_values a))
  said (Ok (e, a)) h = (a, h.2, ap (λ (n : ℕ). telling n (served_values a)) h.1)
  said (Err x) h = absurd (h.0 z)

  module _ (r : Result (ℕ × Served) Refusal) (h : ServesAnswers τ l s r) where
    -- whatever may be said is told, and whatever is told, by its values, is said
    tells : (b : Served) → Says τ l rs b → serves_numbers r ≡ telling τ.edition (served_values b)
    tells b p = let w = said r h in w.2 ∙ ap (λ (v : Served). telling τ.edition (served_values v)) (one_answer τ l rs w.0 b w.1 p)

    is : (n : Numbers) (b : Served) → serves_numbers r ≡ n → ((a : Served) → served_values a ≡ n.values → a ≡ b) → Says τ l rs b
    is n b e case =
        let w = said r h in
        subst (Says τ l rs) (case w.0 (valued (telling τ.edition (served_values w.0)) n (sym w.2 ∙ e))) w.1

    exactly : (serves_numbers r ≡ telling τ.edition []) ↔ DoesTheWork τ l rs
    exactly = (λ e. (serves_exactly τ l rs).1 (is (telling τ.edition []) Serves e serves_case), λ w. tells Serves ((serves_exactly τ l rs).0 w))

    nobody : DoesTheWork τ l rs ↔ ((judging (Ok τ) s ≡ Ok (τ.edition, Passed)) × NoneOutside l rs × NoneBelow τ l rs (length l))
    nobody = (
      λ w. let p = (serves_exactly τ l rs).0 w in (accepted.1 p.0, p.1, p.2),
      λ p. (serves_exactly τ l rs).1 (accepted.0 p.0, p.1, p.2),
    )

    -- both tell the rule and the record
    both : (x : Rule) (i : ℕ) → judge τ rs ≡ Broken x i → serves_numbers r ≡ judged_numbers (judging (Ok τ) s)
    both x i p = tells (Against x i) p ∙ sym (told τ s z ∙ ap (λ (v : Verdicts). telling τ.edition (verdict_values v)) p)

    verdict : (e n i : ℕ) → (serves_numbers r ≡ telling e (n ∷ i ∷ [])) ↔ (judged_numbers (judging (Ok τ) s) ≡ telling e (n ∷ i ∷ []))
    verdict e n i = (
      λ k.
          let w = said r h in
          let c = against_case w.0 n i (valued (telling τ.edition (served_values w.0)) (telling e (n ∷ i ∷ [])) (sym w.2 ∙ k)) in
          sym (both c.0 i (subst (Says τ l rs) c.1 w.1)) ∙ k,
      λ k.
          let v = judge τ rs in
          let c = broken_case v n i (valued (telling τ.edition (verdict_values v)) (telling e (n ∷ i ∷ [])) (sym (told τ s z) ∙ k)) in
          both c.0 i c.1 ∙ k,
    )

    names : (x : ℕ) → (serves_numbers r ≡ telling τ.edition (x ∷ []))
        ↔ ((judging (Ok τ) s ≡ Ok (τ.edition, Passed))
        × (Lowest τ l rs x ⊎ ((x ≡ length l) × NoneBelow τ l rs (length l) × OneOutside l rs)))
    names x = (
      λ e. let p = is (telling τ.edition (x ∷ [])) (Names x) e (λ a. names_case a x) in (accepted.1 p.0, p.1),
      λ p. tells (Names x) (accepted.0 p.0, p.1),
    )

-- by a check that finds nothing to refuse
checked : (check : Table → Result Unit Refusal) (τ : Table) → check τ ≡ Ok tt → (l : List Transaction) (s : List ℕ) (r : Result (ℕ × Served) Refusal)
    → Serving check (Ok τ) l s r ↔ ServesAnswers τ l s r
unfolding Serving ServesChecked
checked check τ fine l s r = (subst (λ (c : Result Unit Refusal). ServesChecked c τ l s r) fine, subst (λ (c : Result Unit Refusal). ServesChecked c τ l s r) (sym fine))

-- ---- of the calls

module _ (expected : ℕ) (table : List ℕ) (τ : Table) (read : admitted expected table ≡ Ok τ) where
  acc : Accepted τ
  acc = read_accepted expected table τ read

  -- what holds of the table read holds of its bytes
  of_bytes : (P : Result Table Refusal → Type 0) → P (Ok τ) → P (admitted expected table)
  of_bytes P p = subst P (sym read) p

  module _ (check : Table → Result Unit Refusal) (l : List Transaction) where
    serves_on : (s : List ℕ) (r : Result (ℕ × Served) Refusal) → check τ ≡ Ok tt → schedule_refusal (length s) ≡ 0 → Serving check (admitted expected table) l s r
        → ServesOn expected table τ l s r
    serves_on s r fine z p =
        let h = (checked check τ fine l s r).0 (subst (λ (a : Result Table Refusal). Serving check a l s r) read p) in
        record {
          exactly = exactly τ l s z r h;
          nobody = of_bytes (λ a. DoesTheWork τ l (commands_in s)
              ↔ ((judging a s ≡ Ok (τ.edition, Passed)) × NoneOutside l (commands_in s) × NoneBelow τ l (commands_in s) (length l))) (nobody τ l s z r h);
          verdict = λ e n i.
              of_bytes (λ a. (serves_numbers r ≡ telling e (n ∷ i ∷ [])) ↔ (judged_numbers (judging a s) ≡ telling e (n ∷ i ∷ []))) (verdict τ l s z r h e n i);
          names = λ x.
              of_bytes (λ a. (serves_numbers r ≡ telling τ.edition (x ∷ []))
              ↔ ((judging a s ≡ Ok (τ.edition, Passed))
              × (Lowest τ l (commands_in s) x ⊎ ((x ≡ length l) × NoneBelow τ l (commands_in s) (length l) × OneOutside l (commands_in s))))) (names τ l s z r h x);
        }

    module _ (fit : check τ ≡ Ok tt → list_fits τ l ≡ true) where
      -- the bytes of a built schedule
      built_told : check τ ≡ Ok tt → (rs : List Command) → IsBuilt τ l rs → Serving check (admitted expected table) l (bytes_of_all rs) (Ok (τ.edition, Serves))
      built_told fine rs b =
          let q = kept τ acc l (fit fine) rs b in
          of_bytes (λ a. Serving check a l (bytes_of_all rs) (Ok (τ.edition, Serves)))
          ((checked check τ fine l (bytes_of_all rs) (Ok (τ.edition, Serves))).1 (
            bytes_taken τ acc l (fit fine) rs q,
            refl,
            subst (λ (cs : List Command). Says τ l cs Serves) (sym (bytes_same τ acc l (fit fine) rs q)) (built_serves τ acc l (fit fine) rs b),
          ))

      start_serves : (b₀ b f₀ f : List ℕ) (e n : ℕ) → Schedules check (admitted expected table) l b₀ b f₀ f (Ok (e, n)) → StartServes expected table τ check l n b
      start_serves b₀ b f₀ f e n h =
          let fine = built_fine τ l check b₀ b f₀ f e n (subst (λ (a : Result Table Refusal). Schedules check a l b₀ b f₀ f (Ok (e, n))) read h) in
          let k = (demand_2 expected table τ read).built check l b₀ b f₀ f e n h in
          let w = subst (λ (s : List ℕ). Serving check (admitted expected table) l s (Ok (τ.edition, Serves))) (sym k.3) (built_told fine k.0 k.1) in
          let z = subst (λ (s : List ℕ). schedule_refusal (length s) ≡ 0) (sym k.3) (bytes_taken τ acc l (fit fine) k.0 (kept τ acc l (fit fine) k.0 k.1)) in
          let does = (serves_on (take (8 * n) b) (Ok (τ.edition, Serves)) fine z w).exactly.0 refl in
          record { answered = w; alone = λ r p. (serves_on (take (8 * n) b) r fine z p).exactly.1 does; does = does }

  pub serves_of_calls : ServesOfCalls expected table τ
  serves_of_calls =
      record {
        lent = λ l. serves_on (λ τ. check_list τ l) l;
        bytes = λ later b. serves_on (λ τ. check_bytes later τ b) (list_of later b);
        schedule = λ l. start_serves (λ τ. check_list τ l) l (fine_fits τ l);
        schedule_bytes = λ later s. start_serves (λ τ. check_bytes later τ s) (list_of later s) (bytes_fit τ s later);
      }
