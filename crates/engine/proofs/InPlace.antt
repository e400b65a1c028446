-- A turn of a run's loop, for a state that is kept in plain numbers and changed in place.
-- Assumes nothing.
use Prim.Native.Nat.{ℕ, ◌+◌, ◌*◌, ◌<◌}
use mathlib.Core.Path.{◌≡◌, refl, sym, ap, ◌∙◌, subst}
use mathlib.Core.Logic.{◌⊎◌}
use mathlib.Core.Bool.{Bool, true, false, not, ◌&&◌, ◌||◌}
use mathlib.Core.Option.{none, some}
use mathlib.Core.List.{List, map}
use lib.Dec.{leb, ltb, eqb}
use lib.ListN.{length, get_or, set}
use Rattle.records.specs.Tests.{pick}
use Rattle.records.specs.Told.{put_at}
use Rattle.records.specs.declared.table.Table.{Table}
use Rattle.records.specs.declared.command.Kind.{Kind}
use Rattle.records.specs.declared.command.Kind.TheVariants.{Act, Rd, Rda, Wr, Wra, Ref, Other}
use Rattle.records.specs.declared.command.Command.{Command}
use Rattle.records.specs.Command.{bytes_of}
use Rattle.rules.specs.declared.state.State.{State}
use Rattle.rules.specs.Kinds.{is_act, is_wr, is_ref, is_data, in_act_queue, is_known}
use Rattle.rules.specs.Square.{group_of}
use Rattle.rules.specs.State.{past, acts_far, data_far, add_if, rule11, breaks_none, idle}
use Rattle.rules.specs.Queues.{act_queue, data_queue}
use Rattle.rules.specs.CycleRule.{goes}
use Rattle.rules.specs.Run.{stops}
use Rattle.heads.specs.declared.head.Head.{Head}
use Rattle.heads.specs.declared.queue.Queues.{Queues}
use Rattle.heads.specs.Queue.{BothStand}
use Rattle.heads.proofs.Laws.{first}
use Rattle.timing.specs.declared.kept.KeptBank.{KeptBank}
use Rattle.timing.specs.declared.kept.KeptGroup.{KeptGroup}
use Rattle.timing.specs.declared.kept.Kept.{Kept}
use Rattle.rules.specs.Kinds.{is_closing}
use Rattle.timing.specs.Kept.{stamp_of, told_bank, told_group, told, shut_kept, quiet_kept, kept_opened, kept_after, group_opened, group_moved}
use Rattle.timing.proofs.Telling.{told_at, told_group_lem, act_kept, told_act, data_kept, told_data, ref_kept, told_ref}
use Rattle.choices.specs.Choose.{command_of, seen_at, data_free, act_free}
use Rattle.engine.proofs.Laws.{all_data, all_act, goes_data, data_head_kind, goes_act, act_head_kind, goes_ref}
use Rattle.engine.proofs.Going.{Going, early, stops_is, idles, Moving, note_asked, moves}

-- the tests of the loop are those of what the state tells
pub kept_stops : (τ : Table) (bs : List ℕ) (n : ℕ) (s : Kept) (a d : ℕ) (x y : Bool) → a ≡ length (act_queue τ (first bs n)) → d ≡ length (data_queue τ (first bs n))
    → x ≡ ((leb d s.datas && leb a s.acts) || leb 100000000 s.cycle) → x ≡ y → stops τ (first bs n) (told s) ≡ y
unfolding told
kept_stops τ bs n s a d x y p q e f = stops_is τ bs n (told s) a d x y p q e f

pub data_only : (k : Kind) → is_data k ≡ true → (in_act_queue k ≡ false) × (is_act k ≡ false) × (is_ref k ≡ false)
data_only Act e = (sym e, sym e, refl)
data_only Rd e = (refl, refl, refl)
data_only Rda e = (refl, refl, refl)
data_only Wr e = (refl, refl, refl)
data_only Wra e = (refl, refl, refl)
data_only Ref e = (sym e, refl, sym e)
data_only (Other n) e = (refl, refl, refl)

data_known_lem : (k : Kind) → is_data k ≡ true → is_known k ≡ true
data_known_lem Act e = refl
data_known_lem Rd e = refl
data_known_lem Rda e = refl
data_known_lem Wr e = refl
data_known_lem Wra e = refl
data_known_lem Ref e = refl
data_known_lem (Other n) e = e

-- a command of the ACT queue
pub act_queues : (k : Kind) → is_act k ≡ true → in_act_queue k ≡ true
act_queues Act e = refl
act_queues Rd e = e
act_queues Rda e = e
act_queues Wr e = e
act_queues Wra e = e
act_queues Ref e = refl
act_queues (Other n) e = e

pub ref_queues : (k : Kind) → is_ref k ≡ true → in_act_queue k ≡ true
ref_queues Act e = refl
ref_queues Rd e = e
ref_queues Rda e = e
ref_queues Wr e = e
ref_queues Wra e = e
ref_queues Ref e = refl
ref_queues (Other n) e = e

-- the two tests, by every rule: of the data queue's head, and of the ACT queue's
abbrev pub data? : Table → Kept → Head → Bool
data? τ s d = seen_at s.cycle d && (ltb d.act s.acts && breaks_none τ (told s) (command_of d s.cycle))

abbrev pub act? : Table → Kept → Head → Bool
act? τ s a = seen_at s.cycle a && breaks_none τ (told s) (command_of a s.cycle)

-- what goes, and its kind
module _ (τ : Table) (bs : List ℕ) (n : ℕ) (s : Kept) (q : Queues) (h : BothStand τ bs n (told s).acts (told s).datas q) where
  abbrev a : Head
  a = q.acts.head

  abbrev d : Head
  d = q.datas.head

  -- the two tests as code made them: x by the own group, g, z whether the other groups were asked, y what was found of them, v both
  module _ (g : ℕ) (own : KeptGroup) (kept : own ≡ get_or s.groups g quiet_kept) (x z y v : Bool) where
    pub kept_moves : (g ≡ group_of τ d.bank) × (g < τ.groups)
        → x ≡ (seen_at s.cycle d && (ltb d.act s.acts && data_free τ (told_bank (get_or s.banks d.bank shut_kept)) (told_group own) (command_of d s.cycle)))
        → z ≡ (x && not (eqb τ.groups 1)) → ((z ≡ true) × (y ≡ data_far τ (map told_group s.groups) g (is_wr d.kind) s.cycle)) ⊎ ((z ≡ false) × (y ≡ true))
        → v ≡ (x && y) → v ≡ data? τ s d
    unfolding told
    kept_moves e p o r w = w ∙ all_data τ bs n (told s) q h g x y e (rw (told_at s d.bank, told_group_lem s g, ← kept) p) (rw o at r)

    pub kept_opens : is_ref a.kind ≡ false → (g ≡ group_of τ a.bank) × (g < τ.groups)
        → x ≡ (seen_at s.cycle a && act_free τ (told_bank (get_or s.banks a.bank shut_kept)) (told_group own) (stamp_of s.a4) (stamp_of s.refresh) (command_of a s.cycle))
        → z ≡ (x && not (eqb τ.groups 1)) → ((z ≡ true) × (y ≡ acts_far τ (map told_group s.groups) g s.cycle)) ⊎ ((z ≡ false) × (y ≡ true))
        → v ≡ (x && y) → v ≡ act? τ s a
    unfolding told
    kept_opens f e p o r w = w ∙ all_act τ bs n (told s) q h g x y f e (rw (told_at s a.bank, told_group_lem s g, ← kept) p) (rw o at r)

  module _ (x : Bool) (p : x ≡ data? τ s d) where
    pub kept_data : x ≡ true → (goes τ (first bs n) (told s) ≡ some (command_of d s.cycle)) × (is_data d.kind ≡ true)
    unfolding told
    kept_data e = (goes_data τ bs n (told s) q h x p e, data_head_kind τ bs n (told s) q h x p e)

    module _ (e : x ≡ false) (k : Bool) (is_ref_lem : k ≡ is_ref a.kind) (z : Bool) where
      module _ (w : k ≡ false) (r : z ≡ act? τ s a) where
        pub kept_act : goes τ (first bs n) (told s) ≡ pick z (some (command_of a s.cycle)) none
        unfolding told
        kept_act = goes_act τ bs n (told s) q h x p e z r

        pub kept_act_kind : z ≡ true → is_act a.kind ≡ true
        unfolding told
        kept_act_kind v = act_head_kind τ bs n (told s) q h x p e z r (sym is_ref_lem ∙ w) v

      -- a REF that keeps rule 12 goes or not, as the banks are at rest or not; one that does not keep it does not go
      module _ (w : k ≡ true) (r : z ≡ (seen_at s.cycle a && past (stamp_of s.refresh) τ.rfc s.cycle)) where
        by_rest : (y : Bool) → y ≡ rule11 τ (told s) s.cycle → goes τ (first bs n) (told s) ≡ pick (z && y) (some (command_of a s.cycle)) none
        unfolding told
        by_rest y v = goes_ref τ bs n (told s) q h x p e (sym is_ref_lem ∙ w) z r y v

        pub kept_ref : z ≡ true → (y y' : Bool) → y ≡ rule11 τ (told s) s.cycle → y ≡ y' → goes τ (first bs n) (told s) ≡ pick y' (some (command_of a s.cycle)) none
        kept_ref i y y' v f = by_rest y v ∙ (ap (λ (b : Bool). pick (b && y) (some (command_of a s.cycle)) none) i ∙ ap (λ (b : Bool). pick b (some (command_of a s.cycle)) none) f)

        pub kept_waits : z ≡ false → goes τ (first bs n) (told s) ≡ none
        kept_waits i = by_rest (rule11 τ (told s) s.cycle) refl ∙ ap (λ (b : Bool). pick (b && rule11 τ (told s) s.cycle) (some (command_of a s.cycle)) none) i

-- the state with another cycle
abbrev pub at_cycle : Kept → ℕ → Kept
at_cycle s c =
    record {
      edition = s.edition;
      cycle = c;
      acts = s.acts;
      datas = s.datas;
      banks = s.banks;
      a1 = s.a1;
      a2 = s.a2;
      a3 = s.a3;
      a4 = s.a4;
      groups = s.groups;
      refresh = s.refresh;
      lent = s.lent;
    }

-- the state after a data command, and after an ACT, whose parts are given
abbrev pub stored : Kept → ℕ → ℕ → KeptBank → ℕ → KeptGroup → Kept
stored s next b kb g kg =
    record {
      edition = s.edition;
      cycle = next;
      acts = s.acts;
      datas = s.datas + 1;
      banks = set s.banks b kb;
      a1 = s.a1;
      a2 = s.a2;
      a3 = s.a3;
      a4 = s.a4;
      groups = set s.groups g kg;
      refresh = s.refresh;
      lent = s.lent;
    }

abbrev pub opened : Kept → ℕ → ℕ → ℕ → KeptGroup → Kept
opened s next b g kg =
    record {
      edition = s.edition;
      cycle = next;
      acts = s.acts + 1;
      datas = s.datas;
      banks = set s.banks b (kept_opened next);
      a1 = next;
      a2 = s.a1;
      a3 = s.a2;
      a4 = s.a3;
      groups = set s.groups g kg;
      refresh = s.refresh;
      lent = s.lent;
    }

told_idle : (s : Kept) → idle (told s) ≡ told (at_cycle s (s.cycle + 1))
unfolding told
told_idle s = refl

module _ {τ : Table} {bs : List ℕ} {n : ℕ} {s₀ : State} {count : ℕ} {b₀ b : List ℕ} (s : Kept) {q : Queues} {i k : ℕ} where
  pub kept_early : Going τ bs n s₀ count b₀ b (told s) q i k → stops τ (first bs n) (told s) ≡ false → s.cycle < 100000000
  unfolding told
  kept_early g e = early g e

  pub kept_idles : Going τ bs n s₀ count b₀ b (told s) q i k → i < count → stops τ (first bs n) (told s) ≡ false → goes τ (first bs n) (told s) ≡ none
      → Going τ bs n s₀ count b₀ b (told (at_cycle s (s.cycle + 1))) q (i + 1) k
  kept_idles g p e w = subst (λ (z : State). Going τ bs n s₀ count b₀ b z q (i + 1) k) (told_idle s) (idles g p e w)

  module _ {c : Command} (m : Moving τ bs n s₀ count b₀ b (told s) q i k c) where
    pub kept_asked : (s.cycle < 18446744073709551615) × (s.acts < 4294967295) × (s.datas < 4294967295) × (c.bank < 16)
    unfolding told
    kept_asked = note_asked m

    module _ (q' : Queues) (h : BothStand τ bs n (add_if (in_act_queue c.kind) (told s).acts) (add_if (not (in_act_queue c.kind)) (told s).datas) q') where
      act_moves : is_act c.kind ≡ true
          → Going τ bs n s₀ count b₀ (put_at b (8 * k) (bytes_of c)) (told (act_kept s (s.cycle + 1) c.bank (group_of τ c.bank))) q' (i + 1) (k + 1)
      unfolding told
      act_moves a =
          subst (λ (z : State). Going τ bs n s₀ count b₀ (put_at b (8 * k) (bytes_of c)) z q' (i + 1) (k + 1)) (sym (told_act τ s c.kind s.cycle c.bank a)) (moves m q' h)

      pub ref_moves : is_ref c.kind ≡ true → Going τ bs n s₀ count b₀ (put_at b (8 * k) (bytes_of c)) (told (ref_kept s (s.cycle + 1))) q' (i + 1) (k + 1)
      unfolding told
      ref_moves a =
          subst (λ (z : State). Going τ bs n s₀ count b₀ (put_at b (8 * k) (bytes_of c)) z q' (i + 1) (k + 1)) (sym (told_ref τ s c.kind s.cycle c.bank a)) (moves m q' h)

      data_moves : is_data c.kind ≡ true
          → Going τ bs n s₀ count b₀ (put_at b (8 * k) (bytes_of c)) (told (data_kept s (is_wr c.kind) (is_closing c.kind) (s.cycle + 1) c.bank (group_of τ c.bank))) q' (i + 1) (k + 1)
      unfolding told
      data_moves e =
          subst (λ (z : State). Going τ bs n s₀ count b₀ (put_at b (8 * k) (bytes_of c)) z q' (i + 1) (k + 1))
          (sym (told_data τ s c.kind s.cycle c.bank (data_known_lem c.kind e) (data_only c.kind e).1 (data_only c.kind e).2)) (moves m q' h)

      -- the same by what the calls gave
      module _ (g : ℕ) (eg : g ≡ group_of τ c.bank) (kg : KeptGroup) (b' : List ℕ) (eb : b' ≡ put_at b (8 * k) (bytes_of c)) where
        pub act_stored : kg ≡ group_opened (get_or s.groups g quiet_kept) (s.cycle + 1) → is_act c.kind ≡ true
            → Going τ bs n s₀ count b₀ b' (told (opened s (s.cycle + 1) c.bank g kg)) q' (i + 1) (k + 1)
        act_stored ek e = rw (eb, ek, eg) (act_moves e)

        pub data_stored : (w z : Bool) (kb : KeptBank) → w ≡ is_wr c.kind → z ≡ is_closing c.kind → kb ≡ kept_after (get_or s.banks c.bank shut_kept) w z (s.cycle + 1)
            → kg ≡ group_moved (get_or s.groups g quiet_kept) w (s.cycle + 1) → is_data c.kind ≡ true
            → Going τ bs n s₀ count b₀ b' (told (stored s (s.cycle + 1) c.bank kb g kg)) q' (i + 1) (k + 1)
        data_stored w z kb ew ez er ek e = rw (eb, ek, eg, er, ez, ew) (data_moves e)
