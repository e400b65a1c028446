-- Where the loop of a run stands: what is left of the run gives its whole answer.
-- Assumes nothing.
use Prim.Native.Nat.{ℕ, zero, suc, ◌+◌, ◌-◌, ◌*◌, ◌≤◌, ◌<◌, min}
use native.Mathlib.Omega.{arith}
use native.Mathlib.Nat.{zero-add, le-min}
use mathlib.Core.Path.{◌≡◌, refl, sym, ap, ◌∙◌, subst}
use mathlib.Core.Bool.{Bool, true, false, not, ◌&&◌, ◌||◌}
use mathlib.Core.Option.{Option, none, some}
use mathlib.Core.List.{List, [], ◌∷◌, ◌++◌, append_assoc, append-nil}
use lib.Dec.{leb}
use lib.ListN.{length, get_or}
use borrow.Author.Tests.{leb-false}
use Rattle.records.specs.Told.{over, put_at}
use Rattle.records.specs.declared.table.Table.{Table}
use Rattle.records.specs.declared.command.Command.{Command}
use Rattle.records.specs.Command.{bytes_of, bytes_of_all}
use Rattle.records.proofs.Bytes.{length_over, over_more}
use Rattle.records.proofs.Written.{bytes_append, length_bytes}
use Rattle.rules.specs.declared.state.State.{State}
use Rattle.rules.specs.Kinds.{in_act_queue}
use Rattle.rules.specs.Square.{group_of}
use Rattle.rules.specs.State.{add_if, note, idle, after}
use Rattle.rules.specs.Pattern.{onto}
use Rattle.rules.specs.Queues.{act_queue, data_queue}
use Rattle.rules.specs.CycleRule.{goes, push}
use Rattle.rules.specs.Run.{served, stops, Ran, one_more, run}
use Rattle.rules.proofs.laws.TestLaws.{neither}
use Rattle.rules.proofs.queues.Queue.{act_length, data_length}
use Rattle.rules.proofs.queues.Counts.{Capped, caps_step}
use Rattle.rules.proofs.runs.RunTo.{stopped, going}
use Rattle.rules.proofs.runs.HowMany.{run_room}
use Rattle.heads.specs.declared.queue.Queue.{Queue}
use Rattle.heads.specs.declared.queue.Queues.{Queues}
use Rattle.heads.specs.Queue.{Listed, Placed, Stands, BothStand, acts_left, datas_left}
use Rattle.heads.proofs.Laws.{first, acts_due, datas_due}
use Rattle.heads.proofs.Standing.{recount}
use Rattle.timing.specs.declared.kept.Kept.{Kept}
use Rattle.timing.specs.declared.kept.KeptGroup.{KeptGroup}
use Rattle.timing.specs.Kept.{told, quiet_kept}
use Rattle.engine.specs.Run.{commands_left, Ready, Runs}
use Rattle.engine.proofs.Laws.{Leaves, leaves}

-- ---- the buffer

onto_after : (h g : List Command) → onto h g ≡ onto h [] ++ g
onto_after [] g = refl
onto_after (r ∷ h) g = onto_after h (r ∷ g) ∙ (sym (append_assoc (onto h []) (r ∷ []) g) ∙ ap (λ (l : List Command). l ++ g) (sym (onto_after h (r ∷ []))))

-- the bytes of a history, oldest first
abbrev written : List Command → List ℕ
written h = bytes_of_all (onto h [])

written_more : (c : Command) (h : List Command) → written (c ∷ h) ≡ written h ++ bytes_of c
written_more c h =
    ap bytes_of_all (onto_after h (c ∷ [])) ∙ (bytes_append (onto h []) (c ∷ []) ∙ ap (λ (l : List ℕ). written h ++ l) (append-nil (bytes_of c)))

length_onto : (h g : List Command) → length (onto h g) ≡ length h + length g
length_onto [] g = omega arith
length_onto (r ∷ h) g = omega (arith, length_onto h (r ∷ g))

length_written : (h : List Command) → length (written h) ≡ 8 * length h
length_written h = omega (arith, length_bytes (onto h []), length_onto h [])

-- one command more is written where the last one ended
put_more : (h : List Command) (c : Command) (b₀ b : List ℕ) (k : ℕ) → k ≡ length h → b ≡ over (written h) b₀
    → put_at b (8 * k) (bytes_of c) ≡ over (written (c ∷ h)) b₀
put_more h c b₀ b k e q =
    rw (q, e, ← length_written h) (over_more (written h) (bytes_of c) b₀) ∙ ap (λ (l : List ℕ). over l b₀) (sym (written_more c h))

-- ---- the run

-- a run only adds to what was written
run_longer : (n : ℕ) (τ : Table) (bs : List ℕ) (m : ℕ) (s : State) (h : List Command) → length h ≤ length (run n τ (first bs m) s h).history
run_longer zero τ bs m s h = omega arith
run_longer (suc n) τ bs m s h = on (stops τ (first bs m) s) refl (longer (goes τ (first bs m) s)) (run_longer n τ bs m (after τ s (goes τ (first bs m) s)) (push (goes τ (first bs m) s) h))
  where
    longer : (o : Option Command) → length h ≤ length (push o h)
    longer none = omega arith
    longer (some c) = omega arith

    on : (b : Bool) → stops τ (first bs m) s ≡ b → length h ≤ length (push (goes τ (first bs m) s) h)
        → length (push (goes τ (first bs m) s) h) ≤ length (run n τ (first bs m) (after τ s (goes τ (first bs m) s)) (push (goes τ (first bs m) s) h)).history
        → length h ≤ length (run (suc n) τ (first bs m) s h).history
    on true e p q = rw (stopped (suc n) τ (first bs m) s h e) (omega arith)
    on false e p q = rw (going n τ (first bs m) s h e) (omega (arith, p, q))

-- a run that comes i cycles later
abbrev later : ℕ → Ran → Ran
later i r = record { state = r.state; history = r.history; cycles = i + r.cycles }

pub record Going (τ : Table) (bs : List ℕ) (n : ℕ) (s₀ : State) (count : ℕ) (b₀ b : List ℕ) (s : State) (q : Queues) (i k : ℕ) : Type 0 where
  pub history : List Command
  pub whole : run count τ (first bs n) s₀ [] ≡ later i (run (count - i) τ (first bs n) s history)
  pub size : k ≡ length history
  pub buffer : b ≡ over (bytes_of_all (onto history [])) b₀
  pub capped : Capped (first bs n) s
  pub queues : BothStand τ bs n s.acts s.datas q

-- and the groups of the banks of the two heads, by number and as they are kept
pub record Turns (τ : Table) (bs : List ℕ) (n : ℕ) (s₀ : State) (count : ℕ) (b₀ b : List ℕ) (s : Kept) (q : Queues) (dg ag : ℕ) (gd ga : KeptGroup) (i k : ℕ) : Type 0 where
  pub going : Going τ bs n s₀ count b₀ b (told s) q i k
  pub of_data : (dg ≡ group_of τ q.datas.head.bank) × (dg < τ.groups)
  pub of_act : (ag ≡ group_of τ q.acts.head.bank) × (ag < τ.groups)
  pub group_data : gd ≡ get_or s.groups dg quiet_kept
  pub group_act : ga ≡ get_or s.groups ag quiet_kept

pub starts : {τ : Table} {bs : List ℕ} {n : ℕ} {s : State} {count : ℕ} {q : Queues} (b : List ℕ) → Ready τ bs n s count (length b)
    → BothStand τ bs n s.acts s.datas q → Going τ bs n s count b b s q 0 0
starts {τ} {bs} {n} {s} {count} b r h =
    let e : count - 0 ≡ count = omega arith in
    record {
      history = [];
      whole = rw (e, zero-add (run count τ (first bs n) s []).cycles);
      size = refl;
      buffer = refl;
      capped = (omega (arith, r.acts, act_length τ (first bs n)), omega (arith, r.datas, data_length τ (first bs n)));
      queues = h;
    }

-- the code's test is the definition's
pub stops_is : (τ : Table) (bs : List ℕ) (n : ℕ) (s : State) (a d : ℕ) (x y : Bool) → a ≡ length (act_queue τ (first bs n)) → d ≡ length (data_queue τ (first bs n))
    → x ≡ ((leb d s.datas && leb a s.acts) || leb 100000000 s.cycle) → x ≡ y → stops τ (first bs n) s ≡ y
stops_is τ bs n s a d x y p q e f = rw (← p, ← q) (sym e ∙ f)

module _ {τ : Table} {bs : List ℕ} {n : ℕ} {s₀ : State} {count : ℕ} {b₀ b : List ℕ} {s : State} {q : Queues} {i k : ℕ} (g : Going τ bs n s₀ count b₀ b s q i k) where
  abbrev still : Type 0
  still = stops τ (first bs n) s ≡ false

  -- a run that does not stop is before cycle 100,000,000
  pub early : still → s.cycle < 100000000
  early e = leb-false 100000000 s.cycle (neither (served τ (first bs n) s) (leb 100000000 s.cycle) e).1

  room : (m : ℕ) (u : State) (h : List Command) → Ready τ bs n s₀ count (length b₀) → run count τ (first bs n) s₀ [] ≡ later m (run (count - m) τ (first bs n) u h)
      → (length h ≤ count) × (8 * length h ≤ length b₀)
  room m u h r e =
      let z = run_room τ (first bs n) count s₀ r.acts r.datas in
      let w = run_longer (count - m) τ bs n u h in
      let y = ap (λ (o : Ran). length o.history) e in
      let x : length h ≤ min count (commands_left τ (first bs n) s₀) = le-min (omega (arith, z.0, w, y)) (omega (arith, z.1, w, y)) in
      (omega (arith, z.0, w, y), omega (arith, r.fits))

  pub same_size : Ready τ bs n s₀ count (length b₀) → length b ≡ length b₀
  same_size r = ap length g.buffer ∙ length_over (written g.history) b₀ (omega (arith, length_written g.history, (room i s g.history r g.whole).1))

  -- one cycle further
  module _ (p : i < count) (e : still) (o : Option Command) (w : goes τ (first bs n) s ≡ o) where
    on_whole : run count τ (first bs n) s₀ [] ≡ later (i + 1) (run (count - (i + 1)) τ (first bs n) (after τ s o) (push o g.history))
    on_whole =
        g.whole ∙ (ap (λ (m : ℕ). later i (run m τ (first bs n) s g.history)) one
        ∙ (ap (later i) (going (count - (i + 1)) τ (first bs n) s g.history e)
        ∙ (ap (λ (y : Option Command). later i (one_more (run (count - (i + 1)) τ (first bs n) (after τ s y) (push y g.history)))) w
        ∙ ap (λ (c : ℕ). record { state = r.state; history = r.history; cycles = c }) (omega arith))))
      where
        one : count - i ≡ suc (count - (i + 1))
        one = omega arith

        r : Ran
        r = run (count - (i + 1)) τ (first bs n) (after τ s o) (push o g.history)

    on_capped : Capped (first bs n) (after τ s o)
    on_capped = subst (λ (y : Option Command). Capped (first bs n) (after τ s y)) w (caps_step τ (first bs n) s g.capped)

  pub idles : i < count → still → goes τ (first bs n) s ≡ none → Going τ bs n s₀ count b₀ b (idle s) q (i + 1) k
  idles p e w =
      record {
        history = g.history;
        whole = on_whole p e none w;
        size = g.size;
        buffer = g.buffer;
        capped = on_capped p e none w;
        queues = g.queues;
      }

  -- nothing is left to run; v tells the state
  module _ (v : Kept) (tells : told v ≡ s) where
    ended : run (count - i) τ (first bs n) s g.history ≡ record { state = s; history = g.history; cycles = 0 }
        → Runs (run count τ (first bs n) s₀ []) b₀ b (record { state = v; cycles = i; commands = k })
    ended e =
        let z : i + 0 ≡ i = omega arith in
        rw (g.whole ∙ ap (later i) e, z) (record { state = tells; cycles = refl; commands = g.size; buffer = g.buffer })

    pub stops_here : stops τ (first bs n) s ≡ true → Runs (run count τ (first bs n) s₀ []) b₀ b (record { state = v; cycles = i; commands = k })
    stops_here e = ended (stopped (count - i) τ (first bs n) s g.history e)

    pub counted_out : count ≤ i → Runs (run count τ (first bs n) s₀ []) b₀ b (record { state = v; cycles = i; commands = k })
    counted_out p = let z : count - i ≡ 0 = omega arith in ended (ap (λ (m : ℕ). run m τ (first bs n) s g.history) z)

-- where the command c goes
pub record Moving (τ : Table) (bs : List ℕ) (n : ℕ) (s₀ : State) (count : ℕ) (b₀ b : List ℕ) (s : State) (q : Queues) (i k : ℕ) (c : Command) : Type 0 where
  pub going : Going τ bs n s₀ count b₀ b s q i k
  pub ready : Ready τ bs n s₀ count (length b₀)
  pub more : i < count
  pub still : stops τ (first bs n) s ≡ false
  pub goes : goes τ (first bs n) s ≡ some c

module _ {τ : Table} {bs : List ℕ} {n : ℕ} {s₀ : State} {count : ℕ} {b₀ b : List ℕ} {s : State} {q : Queues} {i k : ℕ} {c : Command}
    (m : Moving τ bs n s₀ count b₀ b s q i k c) where
  abbrev g : Going τ bs n s₀ count b₀ b s q i k
  g = m.going

  pub leaving : Leaves τ bs n s c
  leaving = leaves τ bs n s m.ready.list c m.goes

  rooms : (length (c ∷ g.history) ≤ count) × (8 * length (c ∷ g.history) ≤ length b₀)
  rooms = room g (i + 1) (after τ s (some c)) (c ∷ g.history) m.ready (on_whole g m.more m.still (some c) m.goes)

  -- what the functions that the loop calls ask for
  pub room_for : 8 * k + 8 ≤ length b
  room_for = omega (arith, rooms.1, same_size g m.ready, g.size)

  pub few : k < count
  few = omega (arith, rooms.0, g.size)

  pub note_asked : (s.cycle < 18446744073709551615) × (s.acts < 4294967295) × (s.datas < 4294967295) × (c.bank < 16)
  note_asked = (
    omega (arith, early g m.still),
    omega (arith, g.capped.0, act_length τ (first bs n), acts_due m.ready.list),
    omega (arith, g.capped.1, data_length τ (first bs n), datas_due m.ready.list),
    leaving.bank,
  )

  pub act_asked : Listed τ bs n × Placed τ bs n q.acts.place × (q.acts.place.offset < 4294967295)
  act_asked = let a = g.queues.of_acts in (m.ready.list, a.placed, omega (arith, a.left, note_asked.1))

  pub data_asked : Listed τ bs n × Placed τ bs n q.datas.place × (q.datas.place.offset < 4294967295)
  data_asked = let d = g.queues.of_datas in (m.ready.list, d.placed, omega (arith, d.left, note_asked.2))

  -- both queues after it has left its own
  abbrev Left : Queues → Type 0
  Left q' = BothStand τ bs n (add_if (in_act_queue c.kind) s.acts) (add_if (not (in_act_queue c.kind)) s.datas) q'

  pub act_left : in_act_queue c.kind ≡ true → (r : Queue) → Stands τ bs n false (acts_left τ bs q + 1) r → Left (record { acts = r; datas = q.datas })
  act_left e r h = rw e (record { of_acts = recount (ap (λ (x : ℕ). x + 1) g.queues.of_acts.left) h; of_datas = g.queues.of_datas })

  pub data_left : in_act_queue c.kind ≡ false → (r : Queue) → Stands τ bs n true (datas_left τ bs q + 1) r → Left (record { acts = q.acts; datas = r })
  data_left e r h = rw e (record { of_acts = g.queues.of_acts; of_datas = recount (ap (λ (x : ℕ). x + 1) g.queues.of_datas.left) h })

  abbrev next : State
  next = note τ s s.cycle c.kind c.bank

  noted : after τ s (some c) ≡ next
  noted = ap (λ (t : ℕ). note τ s t c.kind c.bank) leaving.cycle

  data_count_lem : add_if (not (in_act_queue c.kind)) s.datas ≡ next.datas
  data_count_lem = rw (← leaving.queue)

  pub moves : (q' : Queues) → Left q' → Going τ bs n s₀ count b₀ (put_at b (8 * k) (bytes_of c)) next q' (i + 1) (k + 1)
  moves q' h =
      record {
        history = c ∷ g.history;
        whole = subst (λ (u : State). run count τ (first bs n) s₀ [] ≡ later (i + 1) (run (count - (i + 1)) τ (first bs n) u (c ∷ g.history))) noted
            (on_whole g m.more m.still (some c) m.goes);
        size = omega (arith, g.size);
        buffer = put_more g.history c b₀ b k g.size g.buffer;
        capped = subst (Capped (first bs n)) noted (on_capped g m.more m.still (some c) m.goes);
        queues = rw data_count_lem at h;
      }
