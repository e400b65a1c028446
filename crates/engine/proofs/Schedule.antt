-- The built schedule: what a fresh run to the end writes, that it is read back, and its finishing cycles.
-- Assumes nothing.
use Rattle.std.specs.Prelude.{None}
use Prim.Native.Nat.{ℕ, zero, suc, ◌+◌, ◌-◌, ◌*◌, ◌≤◌, ◌<◌}
use native.Mathlib.Omega.{arith}
use native.Mathlib.Nat.{min-le_right, zero-add}
use mathlib.Core.Path.{◌≡◌, refl, sym, ap, ◌∙◌, subst}
use mathlib.Core.Logic.{⊎_elim}
use mathlib.Core.Bool.{true}
use mathlib.Core.Option.{Option, none, some}
use mathlib.Core.List.{List, [], ◌∷◌, ◌++◌}
use lib.Dec.{ltb}
use lib.ListN.{length, get_or, get_elem?, drop, get_or-append}
use lib.Seq.{ext_get_or, get_or-append-add, get_or-drop}
use borrow.Author.Tests.{ltb-true, lt-ltb, ne_eqb}
use Rattle.records.specs.Tests.{every}
use Rattle.records.specs.Told.{over}
use Rattle.records.specs.declared.table.Table.{Table}
use Rattle.records.specs.declared.transaction.Transaction.{Transaction}
use Rattle.records.specs.declared.command.Command.{Command}
use Rattle.records.specs.Transaction.{later_at, later_from, is_write}
use Rattle.records.specs.Command.{commands_from, bytes_of_all}
use Rattle.records.proofs.Bytes.{length_over}
use Rattle.records.proofs.Written.{length_bytes, Each, Readable, read_back}
use Rattle.rules.specs.declared.state.State.{State}
use Rattle.rules.specs.Kinds.{is_known}
use Rattle.rules.specs.History.{broken, is_fine}
use Rattle.rules.specs.State.{fresh}
use Rattle.rules.specs.Pattern.{onto}
use Rattle.rules.specs.Queues.{act_count, act_queue, data_queue}
use Rattle.rules.specs.CycleRule.{acts_in, datas_in, goes_at, push, gone, Built}
use Rattle.rules.specs.Run.{run}
use Rattle.rules.specs.Finish.{last_command_in, finish_of, finish}
use Rattle.rules.specs.Promise.{next_cycle, cycle_of, last_command_cycle, Kept}
use Rattle.rules.proofs.laws.TestLaws.{and_fst, and_snd, OnSome, on_pick_lem, on_map}
use Rattle.rules.proofs.laws.Numbers.{from?}
use Rattle.rules.proofs.laws.DataKinds.{is_known_lem, act_known_lem, kind_back_lem}
use Rattle.rules.proofs.queues.Queue.{Place, data_count, place_of, find}
use Rattle.rules.proofs.queues.Heads.{goes_place}
use Rattle.rules.proofs.runs.HowMany.{length_turn}
use Rattle.rules.proofs.shown.Promises.{promise}
use Rattle.heads.specs.Queue.{Listed}
use Rattle.heads.proofs.Laws.{first, length_from, whole}
use Rattle.engine.specs.declared.run.Ran as Answer
use Rattle.engine.specs.Run.{commands_left, Ready, Runs}
use Rattle.finishing.specs.Finish.{cycle_or, Marked, Finished}
use Rattle.engine.specs.Build.{finishes_from, Builds}

-- ---- what goes comes from a transaction of the list, and is of a known kind

pub find_number : (f : Transaction → ℕ) (l : List Transaction) (i a k : ℕ) → OnSome (λ p. p.number < i + length l) (find f l i a k)
find_number f [] i a k = tt
find_number f (x ∷ l) i a k =
    on_pick_lem (λ p. p.number < i + suc (length l)) (ltb k (f x)) (place_of x i a k) (find f l (suc i) (a + act_count x) (k - f x)) (λ e. omega arith)
    (λ e. on_map {P = λ p. p.number < suc i + length l} {Q = λ p. p.number < i + suc (length l)} (find f l (suc i) (a + act_count x) (k - f x)) (λ p h. omega arith)
    (find_number f l (suc i) (a + act_count x) (k - f x)))

pub record Ours (l : List Transaction) (c : Command) : Type 0 where
  pub number : c.number < length l
  pub known : is_known c.kind ≡ true

module _ (τ : Table) (l : List Transaction) where
  gone_ours : (m : ℕ) → Each (Ours l) (gone m τ l)
  gone_ours zero = tt
  gone_ours (suc m) = add (goes_at τ l m (gone m τ l)) goes_ours (gone_ours m)
    where
      h : List Command
      h = gone m τ l

      add : (o : Option Command) → OnSome (Ours l) o → Each (Ours l) (gone m τ l) → Each (Ours l) (push o (gone m τ l))
      add none u v = v
      add (some c) u v = (u, v)

      at : (f : Transaction → ℕ) (k : ℕ) (p : Place) → find f l 0 0 k ≡ some p → p.number < length l
      at f k p e = omega (arith, subst (OnSome (λ p. p.number < 0 + length l)) e (find_number f l 0 0 k))

      goes_ours : OnSome (Ours l) (goes_at τ l m (gone m τ l))
      goes_ours =
          goes_place (λ c. is_fine (broken τ c (gone m τ l))) τ l m (acts_in (gone m τ l)) (datas_in (gone m τ l)) (Ours l)
          (λ p e. record { number = at data_count (datas_in (gone m τ l)) p e; known = is_known_lem (is_write p.transaction) _ })
          (λ p e. record { number = at act_count (acts_in (gone m τ l)) p e; known = act_known_lem p.transaction })

each_onto : (P : Command → Type 0) (a b : List Command) → Each P a → Each P b → Each P (onto a b)
each_onto P [] b u v = v
each_onto P (c ∷ a) b u v = each_onto P a (c ∷ b) u.1 (u.0, v)

pub ours : (τ : Table) (l : List Transaction) (rs : List Command) → Built τ l rs → Each (Ours l) rs
ours τ l rs b = subst (Each (Ours l)) (sym b.schedule) (each_onto (Ours l) (gone b.cycles τ l) [] (gone_ours τ l b.cycles) tt)

-- they are read back from their bytes
pub readable : (l : List Transaction) (rs : List Command) → Each (Ours l) rs → every (λ r. ltb r.cycle 100000000) rs ≡ true → Each Readable rs
readable l [] u e = tt
readable l (r ∷ rs) u e =
    let z : r.cycle < 100000000 = ltb-true r.cycle 100000000 (and_fst (ltb r.cycle 100000000) (every (λ r. ltb r.cycle 100000000) rs) e) in
    (record { cycle = omega arith; kind = kind_back_lem r.kind u.0.known }, readable l rs u.1 (and_snd (ltb r.cycle 100000000) (every (λ r. ltb r.cycle 100000000) rs) e))

numbers : (l : List Transaction) (n : ℕ) → length l ≤ n → (rs : List Command) → Each (Ours l) rs → every (λ c. ltb c.number n) rs ≡ true
numbers l n h [] u = refl
numbers l n h (r ∷ rs) u = rw (lt-ltb r.number n (omega (arith, u.0.number))) (numbers l n h rs u.1)

-- ---- the finishing cycles

no_more : (l : List Transaction) (k : ℕ) → length l ≤ k → (h : List Command) → Each (Ours l) h → last_command_in k h ≡ None
no_more l k e [] u = refl
no_more l k e (r ∷ h) u = rw (ne_eqb r.number k (λ z. omega (arith, u.0.number))) (no_more l k e h u.1)

pub finishes_length : (τ : Table) (l : List Transaction) (k : ℕ) (rs : List Command) → length (finishes_from τ l k rs) ≡ length l
finishes_length τ [] k rs = refl
finishes_length τ (x ∷ l) k rs = ap suc (finishes_length τ l (suc k) rs)

pub finish_at_lem : (τ : Table) (l : List Transaction) (k : ℕ) (rs : List Command) (j : ℕ) (x : Transaction) → get_elem? l j ≡ some x
    → (get_or (finishes_from τ l k rs) j 0 ≡ cycle_of (finish τ x (k + j) rs)) × (j < length l)
finish_at_lem τ [] k rs j x e = let z : ◌≡◌ {A = ℕ} 0 1 = cc in absurd (omega arith)
finish_at_lem τ (y ∷ l) k rs zero x e =
    let same : y ≡ x = cc in
    let z : k ≡ k + 0 = omega arith in
    (ap (λ (y : Transaction). cycle_of (finish τ y k rs)) same ∙ ap (λ (i : ℕ). cycle_of (finish τ x i rs)) z, omega arith)
finish_at_lem τ (y ∷ l) k rs (suc j) x e =
    let w = finish_at_lem τ l (suc k) rs j x e in
    let z : suc k + j ≡ k + suc j = omega arith in
    (w.0 ∙ ap (λ (i : ℕ). cycle_of (finish τ x i rs)) z, omega (arith, w.1))

-- transaction k of the bytes
kth : (bs : List ℕ) (n k : ℕ) → k < n → get_elem? (first bs n) k ≡ some (later_at bs (8 * k))
kth bs n k h =
    ap (λ (l : List Transaction). get_elem? l k) (whole bs n k h)
    ∙ after (first bs k) (later_at bs (8 * k)) (later_from bs (n - (k + 1)) (8 * k + 8)) k (length_from bs k 0)
  where
    after : (p : List Transaction) (x : Transaction) (q : List Transaction) (k : ℕ) → length p ≡ k → get_elem? (p ++ x ∷ q) k ≡ some x
    after [] x q k e = rw (← e)
    after (y ∷ p) x q k e = rw (← e) (after p x q (length p) refl)

module _ (τ : Table) (bs : List ℕ) (n : ℕ) (rs : List Command) (f₀ f g : List ℕ) (q : Kept τ (first bs n) rs) (h : n ≤ length f₀)
    (m : Marked rs f₀ f) where
  size : length (finishes_from τ (first bs n) 0 rs) ≡ n
  size = finishes_length τ (first bs n) 0 rs ∙ length_from bs n 0

  -- the last commands stand at their numbers
  marked_at : (k : ℕ) → k < n → get_or f k 0 ≡ last_command_cycle k rs
  marked_at k z = m.each k ∙ ap (cycle_or (get_or f₀ k 0)) (q.finishes k (omega (arith, length_from bs n 0)))

  finished : Finished τ bs n f g → g ≡ over (finishes_from τ (first bs n) 0 rs) f₀
  finished o =
      ext_get_or 0 g (over new f₀) (o.size ∙ (m.size ∙ sym (length_over new f₀ (omega (arith, size))))) (λ k p. ⊎_elim (within k) (beyond k) (from? k n))
    where
      new : List ℕ
      new = finishes_from τ (first bs n) 0 rs

      within : (k : ℕ) → k < n → get_or g k 0 ≡ get_or (over (finishes_from τ (first bs n) 0 rs) f₀) k 0
      within k z =
          let x = later_at bs (8 * k) in
          o.each k z
          ∙ (ap (finish_of τ x) (marked_at k z)
          ∙ (sym ((finish_at_lem τ (first bs n) 0 rs k x (kth bs n k z)).0
          ∙ (ap (λ (j : ℕ). cycle_of (finish τ x j rs)) (zero-add k) ∙ ap cycle_of (q.finish_at k x (kth bs n k z))))
          ∙ sym (get_or-append (finishes_from τ (first bs n) 0 rs) (drop (length (finishes_from τ (first bs n) 0 rs)) f₀) 0 k (omega (arith, size)))))

      beyond : (k : ℕ) → ((d : ℕ) × (k ≡ n + d)) → get_or g k 0 ≡ get_or (over (finishes_from τ (first bs n) 0 rs) f₀) k 0
      beyond k z =
          let e : k ≡ length (finishes_from τ (first bs n) 0 rs) + z.0 = omega (arith, z.1, size) in
          o.beyond k (omega (arith, z.1))
          ∙ (m.each k
          ∙ (ap (cycle_or (get_or f₀ k 0)) (no_more (first bs n) k (omega (arith, z.1, length_from bs n 0)) (onto rs []) (each_onto (Ours (first bs n)) rs [] (ours τ (first bs n) rs q.built) tt))
          ∙ (ap (λ (j : ℕ). get_or f₀ j 0) e
          ∙ (sym (get_or-drop (length (finishes_from τ (first bs n) 0 rs)) f₀ z.0 0)
          ∙ (sym (get_or-append-add (finishes_from τ (first bs n) 0 rs) (drop (length (finishes_from τ (first bs n) 0 rs)) f₀) z.0 0)
          ∙ ap (λ (j : ℕ). get_or (over (finishes_from τ (first bs n) 0 rs) f₀) j 0) (sym e))))))

-- ---- the whole

module _ (τ : Table) (bs : List ℕ) (n : ℕ) (h : Listed τ bs n) (b₀ f₀ : List ℕ)
    (room : 8 * (length (act_queue τ (first bs n)) + length (data_queue τ (first bs n))) ≤ length b₀) (places : n ≤ length f₀) where
  pub fresh_ready : (s : State) → s ≡ fresh τ → (count : ℕ) → Ready τ bs n s count (length b₀)
  fresh_ready s e count =
      rw e (record {
        list = h;
        acts = omega arith;
        datas = omega arith;
        fits = omega (arith, room, min-le_right count (commands_left τ (first bs n) (fresh τ)));
      })

  module _ (s : State) (e : s ≡ fresh τ) (count : ℕ) (c : count ≡ 100000000) (b : List ℕ) (r : Answer.Ran)
      (o : Runs (run count τ (first bs n) s []) b₀ b r) where
    rs : List Command
    rs = (promise τ h.table (first bs n) h.fit).0

    kept : Kept τ (first bs n) rs
    unfolding rs
    kept = (promise τ h.table (first bs n) h.fit).1

    ran : Runs (run count τ (first bs n) (fresh τ) []) b₀ b r
    ran = subst (λ (u : State). Runs (run count τ (first bs n) u []) b₀ b r) e o

    ran_to_end : (onto (run count τ (first bs n) (fresh τ) []).history [] ≡ rs) × ((run count τ (first bs n) (fresh τ) []).cycles ≡ next_cycle (onto rs []))
    ran_to_end = kept.running count (kept.ends count (omega arith))

    wrote : b ≡ over (bytes_of_all rs) b₀
    wrote = ran.buffer ∙ ap (λ (l : List Command). over (bytes_of_all l) b₀) ran_to_end.0

    count_is : r.commands ≡ length rs
    count_is = ran.commands ∙ (sym (length_turn (run count τ (first bs n) (fresh τ) []).history) ∙ ap length ran_to_end.0)

    long_enough : length (bytes_of_all rs) ≤ length b₀
    long_enough = omega (arith, length_bytes rs, kept.count, room)

    read : commands_from b r.commands 0 ≡ rs
    read =
        ap (λ (y : List ℕ). commands_from y r.commands 0) wrote
        ∙ (ap (λ (k : ℕ). commands_from (over (bytes_of_all rs) b₀) k 0) count_is
        ∙ read_back [] rs (drop (length (bytes_of_all rs)) b₀) (readable (first bs n) rs (ours τ (first bs n) rs kept.built) kept.early))

    pub mark_asked : (8 * r.commands ≤ length b) × (every (λ c. ltb c.number (length f₀)) (commands_from b r.commands 0) ≡ true)
    mark_asked = (
      omega (arith, count_is, length_bytes rs, long_enough, ap length wrote, length_over (bytes_of_all rs) b₀ long_enough),
      rw read (numbers (first bs n) (length f₀) (omega (arith, length_from bs n 0, places)) rs (ours τ (first bs n) rs kept.built)),
    )

    module _ (f : List ℕ) (m : Marked (commands_from b r.commands 0) f₀ f) where
      marked : Marked rs f₀ f
      marked = subst (λ (cs : List Command). Marked cs f₀ f) read m

      pub finish_asked : (8 * n ≤ length bs) × (n ≤ length f) × ((k : ℕ) → k < n → get_or f k 0 < 100000000)
      finish_asked = (
        h.bytes,
        omega (arith, m.size, places),
        λ k z. omega (arith, marked_at τ bs n rs f₀ f f kept places marked k z, kept.last_early k),
      )

      pub builds : (g : List ℕ) → Finished τ bs n f g → Builds τ (first bs n) b₀ b f₀ g (record { commands = r.commands; cycles = r.cycles })
      builds g o =
          record {
            schedule = rs;
            built = kept.built;
            buffer = wrote;
            finishes = finished τ bs n rs f₀ f g kept places marked o;
            commands = count_is;
            cycles = ran.cycles ∙ ran_to_end.1;
          }
