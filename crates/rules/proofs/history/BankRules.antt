-- Where cycles rise a summary of each bank decides rules 3, 4, 5, 8 and 11.
-- Assumes nothing.
use Rattle.std.specs.Prelude.{Some, None}
use Rattle.rules.specs.Types.{Stamp}
use Prim.Native.Nat.{ℕ, ◌+◌, ◌≤◌, max}
use native.Mathlib.Nat.{add_assoc}
use native.Mathlib.Omega.{arith}
use mathlib.Core.Path.{◌≡◌, refl, sym}
use mathlib.Core.Bool.{Bool, true, false, ◌&&◌, and-true}
use mathlib.Core.List.{List, [], ◌∷◌}
use lib.Dec.{leb, eqb}
use borrow.Author.Tests.{le-leb, leb-true}
use Rattle.records.specs.Tests.{pick, every_below}
use Rattle.records.specs.declared.table.Table.{Table}
use Rattle.records.specs.declared.command.Kind.{Kind}
use Rattle.records.specs.declared.command.Kind.TheVariants.{Act, Rd, Rda, Wr, Wra, Ref, Other}
use Rattle.records.specs.declared.command.Command.{Command}
use Rattle.rules.specs.declared.state.Bank.{Bank}
use Rattle.rules.specs.Kinds.{is_act}
use Rattle.rules.specs.Square.{write_tail}
use Rattle.rules.specs.State.{past, is_open, charged, at_rest, bank_after}
use Rattle.rules.specs.History.{open_after, open_in, act_in, greater, precharge_after, precharge_in, all_at_rest}
use Rattle.rules.proofs.laws.TestLaws.{and_both, and_fst, and_snd, bool_eq}
use Rattle.rules.proofs.laws.Below.{below_same}
use Rattle.rules.proofs.history.Newest.{bank_in, Rising, Below, AllBelow, rising_below, past_below}

-- rules 3, 5, 8: what the bank's records say is what its summary says
pub open_same : (b : ℕ) (h : List Command) → open_in b h ≡ is_open (bank_in b h)
open_same b [] = refl
open_same b (r ∷ h) = on (eqb r.bank b) r.kind (open_same b h)
  where
    on : (e : Bool) (k : Kind) → open_in b h ≡ is_open (bank_in b h)
        → pick e (open_after k (open_in b h)) (open_in b h) ≡ is_open (pick e (bank_after k r.cycle (bank_in b h)) (bank_in b h))
    on false k ih = ih
    on true Act ih = refl
    on true Rd ih = refl
    on true Rda ih = refl
    on true Wr ih = refl
    on true Wra ih = refl
    on true Ref ih = ih
    on true (Other n) ih = ih

pub act_same : (b : ℕ) (h : List Command) → act_in b h ≡ (bank_in b h).act
act_same b [] = refl
act_same b (r ∷ h) = on (eqb r.bank b) r.kind (act_same b h)
  where
    on : (e : Bool) (k : Kind) → act_in b h ≡ (bank_in b h).act
        → pick (e && is_act k) (Some r.cycle) (act_in b h) ≡ (pick e (bank_after k r.cycle (bank_in b h)) (bank_in b h)).act
    on false k ih = ih
    on true Act ih = refl
    on true Rd ih = ih
    on true Rda ih = ih
    on true Wr ih = ih
    on true Wra ih = ih
    on true Ref ih = ih
    on true (Other n) ih = ih

-- the stamps of a bank are below c where its records are
BankBelow : ℕ → Bank → Type 0
BankBelow c k = Below c k.act × Below c k.rd × Below c k.wr

bank_below : (c b : ℕ) (h : List Command) → AllBelow c h → BankBelow c (bank_in b h)
unfolding BankBelow
bank_below c b [] q = (tt, tt, tt)
bank_below c b (r ∷ h) q = on (eqb r.bank b) r.kind (bank_below c b h q.1)
  where
    on : (e : Bool) (k : Kind) → BankBelow c (bank_in b h) → BankBelow c (pick e (bank_after k r.cycle (bank_in b h)) (bank_in b h))
    on false k ih = ih
    on true Act ih = (q.0, tt, tt)
    on true Rd ih = (ih.0, q.0, ih.2)
    on true Rda ih = (ih.0, q.0, ih.2)
    on true Wr ih = (ih.0, ih.1, q.0)
    on true Wra ih = (ih.0, ih.1, q.0)
    on true Ref ih = ih
    on true (Other n) ih = ih

past_greater : (n d t : ℕ) (s : Stamp) → past (greater n s) d t ≡ (leb (n + d) t && past s d t)
past_greater n d t None = sym (and-true (leb (n + d) t))
past_greater n d t (Some c) =
    bool_eq (leb (max n c + d) t) (leb (n + d) t && leb (c + d) t)
    (λ e. let l : max n c + d ≤ t = leb-true _ _ e in and_both _ _ (le-leb (n + d) t (omega arith)) (le-leb (c + d) t (omega arith)))
    (λ e.
    let p : n + d ≤ t = leb-true _ _ (and_fst (leb (n + d) t) (leb (c + d) t) e) in
    let q : c + d ≤ t = leb-true _ _ (and_snd (leb (n + d) t) (leb (c + d) t) e) in
    le-leb (max n c + d) t (omega arith))

-- a newer RD, or WR, takes the place of the one before
new_rd : (x a q w : Bool) → (x ≡ true → q ≡ true) → (x && (a && (q && w))) ≡ (a && (x && w))
new_rd true a q w f = rw (f refl)
new_rd false true q w f = refl
new_rd false false q w f = refl

new_wr : (x a q w : Bool) → (x ≡ true → w ≡ true) → (x && (a && (q && w))) ≡ (a && (q && x))
new_wr true a q w f = rw (f refl)
new_wr false true true w f = refl
new_wr false true false w f = refl
new_wr false false q w f = refl

-- rule 4
pub precharge_same : (τ : Table) (t b : ℕ) (h : List Command) → Rising h → past (precharge_in τ b h) τ.rp t ≡ charged τ (bank_in b h) t
unfolding BankBelow
precharge_same τ t b [] i = refl
precharge_same τ t b (r ∷ h) i = on (eqb r.bank b) r.kind (precharge_same τ t b h i.1)
  where
    low : BankBelow r.cycle (bank_in b h)
    low = bank_below r.cycle b h (rising_below r.cycle h i.0 i.1)

    on_rd : past (precharge_in τ b h) τ.rp t ≡ charged τ (bank_in b h) t
        → past (greater (r.cycle + τ.rtp) (precharge_in τ b h)) τ.rp t
        ≡ (past (bank_in b h).act (τ.ras + τ.rp) t && (leb (r.cycle + (τ.rtp + τ.rp)) t && past (bank_in b h).wr (write_tail τ + τ.rp) t))
    on_rd ih =
        rw (past_greater (r.cycle + τ.rtp) τ.rp t (precharge_in τ b h), ih, add_assoc r.cycle τ.rtp τ.rp)
        (new_rd (leb (r.cycle + (τ.rtp + τ.rp)) t) (past (bank_in b h).act (τ.ras + τ.rp) t)
        (past (bank_in b h).rd (τ.rtp + τ.rp) t) (past (bank_in b h).wr (write_tail τ + τ.rp) t)
        (past_below (bank_in b h).rd r.cycle (τ.rtp + τ.rp) t low.1))

    on_wr : past (precharge_in τ b h) τ.rp t ≡ charged τ (bank_in b h) t
        → past (greater (r.cycle + write_tail τ) (precharge_in τ b h)) τ.rp t
        ≡ (past (bank_in b h).act (τ.ras + τ.rp) t && (past (bank_in b h).rd (τ.rtp + τ.rp) t && leb (r.cycle + (write_tail τ + τ.rp)) t))
    on_wr ih =
        rw (past_greater (r.cycle + write_tail τ) τ.rp t (precharge_in τ b h), ih, add_assoc r.cycle (write_tail τ) τ.rp)
        (new_wr (leb (r.cycle + (write_tail τ + τ.rp)) t) (past (bank_in b h).act (τ.ras + τ.rp) t)
        (past (bank_in b h).rd (τ.rtp + τ.rp) t) (past (bank_in b h).wr (write_tail τ + τ.rp) t)
        (past_below (bank_in b h).wr r.cycle (write_tail τ + τ.rp) t low.2))

    on : (e : Bool) (k : Kind) → past (precharge_in τ b h) τ.rp t ≡ charged τ (bank_in b h) t
        → past (pick e (precharge_after τ r.cycle k (precharge_in τ b h)) (precharge_in τ b h)) τ.rp t
        ≡ charged τ (pick e (bank_after k r.cycle (bank_in b h)) (bank_in b h)) t
    on false k ih = ih
    on true Act ih = rw add_assoc (sym (and-true (leb (r.cycle + (τ.ras + τ.rp)) t)))
    on true Rd ih = on_rd ih
    on true Rda ih = on_rd ih
    on true Wr ih = on_wr ih
    on true Wra ih = on_wr ih
    on true Ref ih = ih
    on true (Other n) ih = ih

-- rule 11
pub rest_same : (τ : Table) (t : ℕ) (h : List Command) → Rising h → all_at_rest τ t h ≡ every_below τ.banks (λ b. at_rest τ (bank_in b h) t)
rest_same τ t h i = below_same τ.banks _ (λ b. at_rest τ (bank_in b h) t) (λ b l. rw (open_same b h, precharge_same τ t b h i))
