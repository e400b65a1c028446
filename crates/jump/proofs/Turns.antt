-- Where the loop stands, what a turn has of the two heads, and where the next turn stands.
-- Assumes nothing.
use Prim.Native.Nat.{ℕ, ◌+◌, ◌-◌, ◌*◌, ◌≤◌, ◌<◌, min, max}
use native.Mathlib.Omega.{arith}
use native.Mathlib.Nat.{le-max_left, le-max_right}
use mathlib.Core.Path.{◌≡◌, refl, sym, ap, ◌∙◌, subst}
use mathlib.Core.Logic.{◌⊎◌, inl, inr, ⊎_elim}
use mathlib.Core.Bool.{Bool, true, false, not, ◌&&◌}
use mathlib.Core.List.{List, map}
use lib.Dec.{leb, eqb}
use lib.ListN.{length, get_or, set, length-set}
use borrow.Author.Tests.{leb-false, eq-eqb, not-true}
use Rattle.records.specs.Tests.{pick}
use Rattle.records.specs.Told.{put_at}
use Rattle.records.specs.declared.table.Table.{Table}
use Rattle.records.specs.Command.{bytes_of}
use Rattle.rules.specs.Kinds.{is_act, is_wr, is_ref, is_data, in_act_queue}
use Rattle.rules.specs.Square.{square, group_of}
use Rattle.rules.specs.State.{is_open}
use Rattle.rules.proofs.laws.TestLaws.{true_false, and_fst, and_snd}
use Rattle.rules.proofs.laws.Ranges.{ranges}
use Rattle.rules.proofs.laws.DataKinds.{kind_back_lem}
use Rattle.heads.specs.declared.queue.Queue.{Queue}
use Rattle.heads.specs.declared.queue.Queues.{Queues}
use Rattle.heads.specs.Queue.{Listed, left_at, Found, Stands}
use Rattle.heads.proofs.Laws.{first}
use Rattle.heads.proofs.Standing.{by_itself, recount}
use Rattle.timing.specs.declared.kept.KeptBank.{KeptBank}
use Rattle.timing.specs.declared.kept.KeptGroup.{KeptGroup}
use Rattle.timing.specs.declared.kept.Kept.{Kept}
use Rattle.rules.specs.Kinds.{is_closing}
use Rattle.timing.specs.Kept.{stamp_of, told_bank, told_group, told, shut_kept, quiet_kept, kept_after, group_opened, group_moved}
use Rattle.timing.proofs.Telling.{ref_kept}
use Rattle.choices.specs.Choose.{command_of}
use Rattle.engine.specs.Run.{Ready}
use Rattle.engine.proofs.Laws.{act_kind_lem}
use Rattle.engine.proofs.Going.{Going, Moving, act_left, data_left}
use Rattle.engine.proofs.InPlace.{at_cycle, stored, opened, data_only, ref_moves, act_stored, data_stored}
use Rattle.earliest.specs.Earliest.{limit, since, rests_from, acts_from, datas_from, act_head_from, data_head_from}
use Rattle.soonest.specs.Earlier.{latest_of, six_from, nine_from, ready_from, opens_from}
use Rattle.soonest.specs.Next.{Stood, StaysOpen}
use Rattle.jump.proofs.Latest.{six_is, nine_is, acts_past, datas_past, latest_opened, latest_moved}
use Rattle.jump.proofs.Heads.{Agree, ready_open, queued, moved, act_number, data_number, from_data, from_act, from_ref, ready_waits}
use Rattle.jump.proofs.Jumping.{Turn, soon, onward, data_there, moving_data, first_act, act_there, moving_act}
use Rattle.jump.proofs.Known.{act_now, data_now, kept_six, act_kept_lem, data_kept_lem, opened_kept, refreshed_kept}
use Rattle.jump.proofs.Marking.{Marking, marks_it, passes_it}
use Rattle.jump.proofs.Endings.{data_ends, ref_ends, act_ends}

abbrev pub both : Queue → Queue → Queues
both a d = record { acts = a; datas = d }

-- the loop at its top: m is the latest of all groups, x and y are what is known of the two heads where ka and kd say so, e is the run's end
pub record Straight (τ : Table) (bs : List ℕ) (n : ℕ) (s₀ : Kept) (count e : ℕ) (b₀ b f₀ f : List ℕ) (s : Kept) (m : KeptGroup) (a d : Queue) (x y : ℕ) (ka kd : Bool) (k : ℕ) : Type 0 where
  pub going : Going τ bs n (told s₀) count b₀ b (told s) (both a d) (s.cycle - s₀.cycle) k
  pub started : s₀.cycle ≤ s.cycle
  pub within : s.cycle ≤ e
  pub end : e ≡ max s₀.cycle (min limit (s₀.cycle + count))
  pub found : Found τ bs n true s.datas d.place
  pub latest : m ≡ latest_of τ.groups s.groups
  pub act_known : ka ≡ true → is_ref a.head.kind ≡ false → x ≡ act_now τ s a.head
  pub data_known : kd ≡ true → y ≡ data_now τ s d.head
  pub places : (length s.banks ≡ 16) × (length s.groups ≡ 8)
  pub marking : Marking b₀ b f₀ f k

known_or : (k : Bool) (v w r : ℕ) → r ≡ pick k v w → (k ≡ true → v ≡ w) → r ≡ w
known_or true v w r e f = e ∙ f refl
known_or false v w r e f = e

-- two banks, or two counts, that a test tells apart
differ : (x y : ℕ) → not (eqb x y) ≡ true → x ≡ y → ⊥
differ x y e p = true_false (eqb x y) (eq-eqb x y p) (not-true (eqb x y) e)

module _ {τ : Table} {bs : List ℕ} {n : ℕ} {s₀ : Kept} {count e : ℕ} {b₀ b f₀ f : List ℕ} {s : Kept} {m : KeptGroup} {a d : Queue} {x y : ℕ} {ka kd : Bool} {k : ℕ}
    (h : Straight τ bs n s₀ count e b₀ b f₀ f s m a d x y ka kd k) (rd : Ready τ bs n (told s₀) count (length b₀)) where
  abbrev i : ℕ
  i = s.cycle - s₀.cycle

  -- what a turn computes: w tells of a write, rf of a REF; y' and nine are those of the data queue's head, z its cycle; x' is the cycle of the ACT queue's,
  -- x₁ that of an ACT
  pub record Computed (near away : List (List ℕ)) (dg ag : ℕ) (w rf : Bool) (y' nine z x₁ x' t : ℕ) : Type 0 where
    pub nears : near ≡ square τ true
    pub aways : away ≡ square τ false
    pub of_data : (dg ≡ group_of τ d.head.bank) × (dg < τ.groups)
    pub of_act : (ag ≡ group_of τ a.head.bank) × (ag < τ.groups)
    pub writes : w ≡ is_wr d.head.kind
    pub refreshes : rf ≡ is_ref a.head.kind
    pub ready : y' ≡ pick kd y (ready_from τ d.head (told_bank (get_or s.banks d.head.bank shut_kept)) s.acts)
    pub rule9 : nine ≡ nine_from τ.groups near away (get_or s.groups dg quiet_kept).rd (get_or s.groups dg quiet_kept).wr m w
    pub data_from : z ≡ max y' nine
    pub opens : x₁ ≡ pick rf limit (pick ka x (opens_from τ a.head (told_bank (get_or s.banks a.head.bank shut_kept)) (six_from τ (get_or s.groups ag quiet_kept).act m.act) (stamp_of s.a4) (stamp_of s.refresh)))
    pub act_from : (((rf && leb limit z) ≡ true) × (x' ≡ pick a.head.there (max a.head.arrival (max (rests_from τ (told s)) (since (stamp_of s.refresh) τ.rfc))) limit)) ⊎ (((rf && leb limit z) ≡ false) × (x' ≡ x₁))
    pub at : t ≡ max s.cycle (min z x')

  module _ {near away : List (List ℕ)} {dg ag : ℕ} {w rf : Bool} {y' nine z x₁ x' t : ℕ} (u : Computed near away dg ag w rf y' nine z x₁ x' t) where
    ready_is : y' ≡ data_now τ s d.head
    ready_is = known_or kd y (data_now τ s d.head) y' u.ready h.data_known

    rule9_is : nine ≡ datas_from τ (map told_group s.groups) (group_of τ d.head.bank) (is_wr d.head.kind)
    rule9_is =
        u.rule9 ∙ (ap (λ (l : KeptGroup). nine_from τ.groups near away (get_or s.groups dg quiet_kept).rd (get_or s.groups dg quiet_kept).wr l w) h.latest
        ∙ (nine_is τ s.groups dg u.of_data.1 (ranges τ rd.list.table) near away u.nears u.aways w
        ∙ (ap (λ (g : ℕ). datas_from τ (map told_group s.groups) g w) u.of_data.0 ∙ ap (datas_from τ (map told_group s.groups) (group_of τ d.head.bank)) u.writes)))

    -- an ACT at the head of its queue
    pub act_now_lem : is_ref a.head.kind ≡ false → x' ≡ act_now τ s a.head
    act_now_lem q = ⊎_elim (λ p. true_false rf (and_fst rf (leb limit z) p.0) (u.refreshes ∙ q)) (λ p. p.1 ∙ (u.opens ∙ (ap (λ (v : Bool). pick v limit (pick ka x opening)) (u.refreshes ∙ q) ∙ known_or ka x (act_now τ s a.head) (pick ka x opening) (ap (pick ka x) opening_is) (λ v. h.act_known v q)))) u.act_from
      where
        opening : ℕ
        opening = opens_from τ a.head (told_bank (get_or s.banks a.head.bank shut_kept)) (six_from τ (get_or s.groups ag quiet_kept).act m.act) (stamp_of s.a4) (stamp_of s.refresh)

        six : six_from τ (get_or s.groups ag quiet_kept).act m.act ≡ acts_from τ (map told_group s.groups) (group_of τ a.head.bank)
        six =
            ap (λ (l : KeptGroup). six_from τ (get_or s.groups ag quiet_kept).act l.act) h.latest
            ∙ (six_is τ s.groups ag u.of_act.1 (ranges τ rd.list.table) ∙ ap (acts_from τ (map told_group s.groups)) u.of_act.0)

        opening_is : opening ≡ act_now τ s a.head
        opening_is = ap (λ (v : ℕ). opens_from τ a.head (told_bank (get_or s.banks a.head.bank shut_kept)) v (stamp_of s.a4) (stamp_of s.refresh)) six

    data_agrees : Agree z (data_head_from τ (first bs n) (told s))
    data_agrees = from_data τ bs n s (both a d) h.going.queues z y' nine ready_is rule9_is u.data_from

    act_agrees : Agree x' (act_head_from τ (first bs n) (told s))
    act_agrees = on (is_ref a.head.kind) refl
      where
        on : (v : Bool) → is_ref a.head.kind ≡ v → Agree x' (act_head_from τ (first bs n) (told s))
        on false q = inl (from_act τ bs n s (both a d) h.going.queues x' (acts_from τ (map told_group s.groups) (group_of τ a.head.bank)) refl q (act_now_lem q))
        on true q = ⊎_elim (λ p. inl (from_ref τ bs n s (both a d) h.going.queues x' (rests_from τ (told s)) refl q p.1)) waiting u.act_from
          where
            waiting : ((rf && leb limit z) ≡ false) × (x' ≡ x₁) → Agree x' (act_head_from τ (first bs n) (told s))
            waiting p =
                let early : z < limit = leb-false limit z (subst (λ (v : Bool). (v && leb limit z) ≡ false) (u.refreshes ∙ q) p.0) in
                let low : data_now τ s d.head < limit = omega (arith, early, u.data_from, le-max_left y' nine, ready_is) in
                let is : x' ≡ limit = p.1 ∙ (u.opens ∙ ap (λ (v : Bool). pick v limit (pick ka x (opens_from τ a.head (told_bank (get_or s.banks a.head.bank shut_kept)) (six_from τ (get_or s.groups ag quiet_kept).act m.act) (stamp_of s.a4) (stamp_of s.refresh)))) (u.refreshes ∙ q)) in
                inr (omega (arith, is), ready_waits τ bs n s (both a d) h.going.queues rd.list q low)

    pub turn_of : Turn h.going x' z t e
    unfolding told
    turn_of =
        record {
          from_a = act_agrees;
          from_d = data_agrees;
          at = u.at;
          ran = omega (arith, h.started);
          end = h.end;
          within = h.within;
        }

    module _ (lt : t < e) where
      abbrev j : ℕ
      j = i + (t - s.cycle)

      -- the next turn's cycle, counted from the start
      counts : j + 1 ≡ t + 1 - s₀.cycle
      unfolding told
      counts = omega (arith, (onward h.going turn_of lt).0, h.started)

      pub early : (t < limit) × (s.cycle ≤ t) × (j < count)
      unfolding told
      early = soon h.going turn_of lt

      -- ---- the data queue's head goes
      module _ (p : z ≤ t) where
        pub data_goes : Moving τ bs n (told s₀) count b₀ b (told (at_cycle s t)) (both a d) j k (command_of d.head t)
        unfolding told
        data_goes = moving_data h.going turn_of lt rd p

        pub data_here : d.head.there ≡ true
        unfolding told
        data_here = data_there h.going turn_of lt rd p

        pub data_is : is_data d.head.kind ≡ true
        data_is = moved τ bs n s (both a d) h.going.queues data_here

        pub data_for : d.head.number < n
        data_for = data_number τ bs n s (both a d) h.going.queues data_here

        pub asked : Listed τ bs n × Stood τ bs n (left_at τ bs true d.place) d × (d.head.there ≡ true)
        unfolding told
        asked = (rd.list, record { stands = recount (sym h.going.queues.of_datas.left) h.going.queues.of_datas; found = by_itself h.found }, data_here)

        open_bank : is_open (told_bank (get_or s.banks d.head.bank shut_kept)) ≡ true
        open_bank = ready_open τ d.head (told_bank (get_or s.banks d.head.bank shut_kept)) s.acts (omega (arith, ready_is, u.data_from, le-max_left y' nine, p, early.0))

        module _ (b' f' : List ℕ) (eb : b' ≡ put_at b (8 * k) (bytes_of (command_of d.head t))) (ef : f' ≡ set f d.head.number t) (fits : n ≤ length f₀)
            (d' : Queue) (sd : Stood τ bs n (left_at τ bs true d.place + 1) d' × StaysOpen d.head d'.head) (v closes ka' kd' : Bool) (ev : v ≡ w) (ec : closes ≡ is_closing d.head.kind)
            (eka : ka' ≡ not (eqb d.head.bank a.head.bank)) (ekd : kd' ≡ not closes) (kb : KeptBank) (kg m' : KeptGroup)
            (ekb : kb ≡ kept_after (get_or s.banks d.head.bank shut_kept) v closes (t + 1)) (ekg : kg ≡ group_moved (get_or s.groups dg quiet_kept) v (t + 1)) (em : m' ≡ group_moved m v (t + 1)) where
          abbrev s' : Kept
          s' = stored s (t + 1) d.head.bank kb dg kg

          bank_in_lem : d.head.bank < length s.banks
          bank_in_lem = omega (arith, h.places.0, h.going.queues.of_datas.bank)

          group_in_lem : dg < length s.groups
          group_in_lem = omega (arith, h.places.1, u.of_data.1, (ranges τ rd.list.table).groups.most)

          is_v : v ≡ is_wr d.head.kind
          is_v = ev ∙ u.writes

          pub after_data : Straight τ bs n s₀ count e b₀ b' f₀ f' s' m' a d' x' y' ka' kd' (k + 1)
          unfolding told
          after_data =
              record {
                going = subst (λ (c : ℕ). Going τ bs n (told s₀) count b₀ b' (told s') (both a d') c (k + 1)) counts
                    (data_stored (at_cycle s t) data_goes (both a d') (data_left data_goes (data_only d.head.kind data_is).0 d' sd.0.stands) dg u.of_data.0 kg b' eb v closes kb is_v ec ekb ekg data_is);
                started = omega (arith, h.started, early.1);
                within = omega (arith, lt);
                end = h.end;
                found = subst (λ (c : ℕ). Found τ bs n true c d'.place) (ap (λ (c : ℕ). c + 1) h.found.left) sd.0.found;
                latest = latest_moved τ.groups s.groups dg (t + 1) u.of_data.1 group_in_lem v kg m' ekg (datas_past τ s.groups (group_of τ d.head.bank) (is_wr d.head.kind) t early.0 (omega (arith, rule9_is, u.data_from, le-max_right y' nine, p)))
                    (em ∙ ap (λ (l : KeptGroup). group_moved l v (t + 1)) h.latest);
                act_known = λ q r. act_now_lem r ∙ sym (act_kept_lem τ s (t + 1) d.head.bank kb dg kg a.head (λ z. differ d.head.bank a.head.bank (sym eka ∙ q) (sym z)) group_in_lem (ap (λ (g : KeptGroup). g.act) ekg));
                data_known = λ q. ready_is ∙ sym (stays (not-true closes (sym ekd ∙ q)));
                places = (length-set s.banks d.head.bank kb ∙ h.places.0, length-set s.groups dg kg ∙ h.places.1);
                marking = rw ef (marks_it h.marking (command_of d.head t) (record { cycle = omega (arith, early.0); kind = kind_back_lem d.head.kind (data_ends d.head.kind data_is).1 }) b' eb (data_ends d.head.kind data_is).0 (omega (arith, data_for, fits, h.marking.marked.size)));
              }
            where
              stays : closes ≡ false → data_now τ s' d'.head ≡ data_now τ s d.head
              stays q = data_kept_lem τ s v (t + 1) d.head.bank kb dg kg d.head d'.head refl bank_in_lem (ekb ∙ ap (λ (c : Bool). kept_after (get_or s.banks d.head.bank shut_kept) v c (t + 1)) q) open_bank data_here (sd.1 (sym ec ∙ q))

      -- ---- the ACT queue's head goes
      module _ (p : t < z) where
        pub act_goes : Moving τ bs n (told s₀) count b₀ b (told (at_cycle s t)) (both a d) j k (command_of a.head t)
        unfolding told
        act_goes = moving_act h.going turn_of lt rd p

        pub act_here : a.head.there ≡ true
        unfolding told
        act_here = act_there h.going turn_of lt rd p

        pub act_queued : in_act_queue a.head.kind ≡ true
        act_queued = queued τ bs n s (both a d) h.going.queues act_here

        pub act_for : a.head.number < n
        act_for = act_number τ bs n s (both a d) h.going.queues act_here

        module _ (b' : List ℕ) (eb : b' ≡ put_at b (8 * k) (bytes_of (command_of a.head t))) (a' : Queue) (sa : Stands τ bs n false (left_at τ bs false a.place + 1) a')
            (kd' : Bool) (ekd : kd' ≡ (not (eqb d.head.act s.acts) && not (eqb d.head.bank a.head.bank))) where
          not_late_lem : kd' ≡ true → d.head.act ≡ s.acts → ⊥
          not_late_lem q = differ d.head.act s.acts (and_fst (not (eqb d.head.act s.acts)) (not (eqb d.head.bank a.head.bank)) (sym ekd ∙ q))

          not_there : kd' ≡ true → d.head.bank ≡ a.head.bank → ⊥
          not_there q = differ d.head.bank a.head.bank (and_snd (not (eqb d.head.act s.acts)) (not (eqb d.head.bank a.head.bank)) (sym ekd ∙ q))

          -- a REF
          pub after_ref : (r : is_ref a.head.kind ≡ true) (f' : List ℕ) (ef : f' ≡ set f a.head.number t) (fits : n ≤ length f₀) (ka' : Bool) (eka : ka' ≡ false)
              → Straight τ bs n s₀ count e b₀ b' f₀ f' (ref_kept s (t + 1)) m a' d x' y' ka' kd' (k + 1)
          unfolding told
          after_ref r f' ef fits ka' eka =
              record {
                going = subst (λ (c : ℕ). Going τ bs n (told s₀) count b₀ b' (told (ref_kept s (t + 1))) (both a' d) c (k + 1)) counts
                    (rw eb (ref_moves (at_cycle s t) act_goes (both a' d) (act_left act_goes act_queued a' sa) r));
                started = omega (arith, h.started, early.1);
                within = omega (arith, lt);
                end = h.end;
                found = h.found;
                latest = h.latest;
                act_known = λ q. true_false ka' q eka;
                data_known = λ q. ready_is ∙ sym (refreshed_kept τ s (t + 1) d.head (not_late_lem q));
                places = h.places;
                marking = rw ef (marks_it h.marking (command_of a.head t) (record { cycle = omega (arith, early.0); kind = kind_back_lem a.head.kind (ref_ends a.head.kind r).1 }) b' eb (ref_ends a.head.kind r).0 (omega (arith, act_for, fits, h.marking.marked.size)));
              }

          -- an ACT
          module _ (r : is_ref a.head.kind ≡ false) (kg m' : KeptGroup) (ekg : kg ≡ group_opened (get_or s.groups ag quiet_kept) (t + 1)) (em : m' ≡ group_opened m (t + 1)) (ka' : Bool) (eka : ka' ≡ false) where
            abbrev s'' : Kept
            s'' = opened s (t + 1) a.head.bank ag kg

            act_group : ag < length s.groups
            act_group = omega (arith, h.places.1, u.of_act.1, (ranges τ rd.list.table).groups.most)

            is_act_lem : is_act a.head.kind ≡ true
            is_act_lem = act_kind_lem a.head.kind act_queued r

            past_six : (latest_of τ.groups s.groups).act ≤ t + 1
            unfolding told
            past_six = acts_past τ s.groups (group_of τ a.head.bank) t early.0 (kept_six τ s a.head t act_here (omega (arith, act_now_lem r, first_act h.going turn_of lt rd p)))

            pub after_act : Straight τ bs n s₀ count e b₀ b' f₀ f s'' m' a' d x' y' ka' kd' (k + 1)
            unfolding told
            after_act =
                record {
                  going = subst (λ (c : ℕ). Going τ bs n (told s₀) count b₀ b' (told s'') (both a' d) c (k + 1)) counts
                      (act_stored (at_cycle s t) act_goes (both a' d) (act_left act_goes act_queued a' sa) ag u.of_act.0 kg b' eb ekg is_act_lem);
                  started = omega (arith, h.started, early.1);
                  within = omega (arith, lt);
                  end = h.end;
                  found = h.found;
                  latest = latest_opened τ.groups s.groups ag (t + 1) u.of_act.1 act_group kg m' ekg past_six (em ∙ ap (λ (l : KeptGroup). group_opened l (t + 1)) h.latest);
                  act_known = λ q. true_false ka' q eka;
                  data_known = λ q. ready_is ∙ sym (opened_kept τ s (t + 1) a.head.bank ag kg d.head (not_there q) (not_late_lem q));
                  places = (length-set s.banks a.head.bank _ ∙ h.places.0, length-set s.groups ag kg ∙ h.places.1);
                  marking = passes_it h.marking (command_of a.head t) (record { cycle = omega (arith, early.0); kind = kind_back_lem a.head.kind (act_ends a.head.kind is_act_lem).1 }) b' eb (act_ends a.head.kind is_act_lem).0;
                }
