-- Commands written one after the other, and read again.
-- Assumes nothing.
use Prim.Native.Nat.{ℕ, ◌+◌, ◌*◌, ◌/◌, ◌≤◌, ◌<◌}
use native.Mathlib.Omega.{arith}
use mathlib.Core.Path.{◌≡◌, refl, sym, ap, ◌∙◌}
use mathlib.Core.List.{List, [], ◌∷◌, ◌++◌, append_assoc, append-nil}
use lib.ListN.{length, get_or, take, drop, length-append}
use lib.Seq.{get_or-append-add, take-append_seam}
use Rattle.records.specs.Told.{over, put_at}
use Rattle.records.specs.declared.command.Command.{Command}
use Rattle.records.specs.Command.{kind_of, kind_number, command_at, commands_from, commands_in, bytes_of, bytes_of_all}
use Rattle.records.proofs.Inverse.{le16_of, le32_of}
use Rattle.records.proofs.Bytes.{over_more, length_over}

pub bytes_append : (a b : List Command) → bytes_of_all (a ++ b) ≡ bytes_of_all a ++ bytes_of_all b
bytes_append [] b = refl
bytes_append (c ∷ a) b = ap (λ (l : List ℕ). bytes_of c ++ l) (bytes_append a b) ∙ sym (append_assoc (bytes_of c) (bytes_of_all a) (bytes_of_all b))

pub length_bytes : (rs : List Command) → length (bytes_of_all rs) ≡ 8 * length rs
length_bytes [] = refl
length_bytes (c ∷ rs) = length-append (bytes_of c) (bytes_of_all rs) ∙ omega (arith, length_bytes rs)

-- one command more
pub written_more : (done : List Command) (x : Command) (b : List ℕ)
    → put_at (over (bytes_of_all done) b) (8 * length done) (bytes_of x) ≡ over (bytes_of_all (done ++ (x ∷ []))) b
written_more done x b =
    ap (λ (n : ℕ). put_at (over (bytes_of_all done) b) n (bytes_of x)) (sym (length_bytes done))
    ∙ (over_more (bytes_of_all done) (bytes_of x) b
    ∙ ap (λ (l : List ℕ). over l b) (sym (bytes_append done (x ∷ []) ∙ ap (λ (l : List ℕ). bytes_of_all done ++ l) (append-nil (bytes_of x)))))

pub length_written : (done : List Command) (b : List ℕ) → 8 * length done ≤ length b → length (over (bytes_of_all done) b) ≡ length b
length_written done b h = length_over (bytes_of_all done) b (omega (arith, length_bytes done))

-- what holds of each command
abbrev pub Each : (Command → Type 0) → List Command → Type 0
Each P [] = Unit {0}
Each P (c ∷ cs) = P c × Each P cs

-- a command whose bytes say what it is
pub record Readable (c : Command) : Type 0 where
  pub cycle : c.cycle < 4294967296
  pub kind : kind_of (kind_number c.kind) ≡ c.kind

-- the command whose bytes follow others
command_after : (p : List ℕ) (c : Command) (u : List ℕ) → Readable c → command_at (p ++ (bytes_of c ++ u)) (length p) ≡ c
command_after p c u r =
    moved ∙ rw (le32_of c.cycle, r.kind, le16_of c.number)
  where
    at : (i : ℕ) → get_or (p ++ (bytes_of c ++ u)) (length p + i) 0 ≡ get_or (bytes_of c ++ u) i 0
    at i = get_or-append-add p (bytes_of c ++ u) i 0

    z : length p ≡ length p + 0
    z = omega arith

    s : length p + 6 + 1 ≡ length p + 7
    s = omega arith

    moved : command_at (p ++ (bytes_of c ++ u)) (length p) ≡ command_at (bytes_of c ++ u) 0
    moved =
        rw (s, at 1, at 2, at 3, at 4, at 5, at 6, at 7) (ap (λ (x : ℕ). record {
          cycle = x + get_or (bytes_of c ++ u) 1 0 * 256 + get_or (bytes_of c ++ u) 2 0 * 65536 + get_or (bytes_of c ++ u) 3 0 * 16777216;
          kind = kind_of (get_or (bytes_of c ++ u) 4 0);
          bank = get_or (bytes_of c ++ u) 5 0;
          number = get_or (bytes_of c ++ u) 6 0 + get_or (bytes_of c ++ u) 7 0 * 256;
        }) (ap (λ (i : ℕ). get_or (p ++ (bytes_of c ++ u)) i 0) z ∙ at 0))

pub read_back : (p : List ℕ) (cs : List Command) (u : List ℕ) → Each Readable cs → commands_from (p ++ (bytes_of_all cs ++ u)) (length cs) (length p) ≡ cs
unfolding commands_from
read_back p [] u r = refl
read_back p (c ∷ cs) u r =
    ap (λ (x : Command). x ∷ commands_from (p ++ (bytes_of_all (c ∷ cs) ++ u)) (length cs) (length p + 8)) first
    ∙ ap (λ (l : List Command). c ∷ l)
    (ap (λ (s : List ℕ). commands_from s (length cs) (length p + 8)) apart
    ∙ ap (commands_from ((p ++ bytes_of c) ++ (bytes_of_all cs ++ u)) (length cs)) further
    ∙ read_back (p ++ bytes_of c) cs u r.1)
  where
    further : length p + 8 ≡ length (p ++ bytes_of c)
    further = sym (length-append p (bytes_of c))

    joined : p ++ (bytes_of_all (c ∷ cs) ++ u) ≡ p ++ (bytes_of c ++ (bytes_of_all cs ++ u))
    joined = ap (λ (l : List ℕ). p ++ l) (append_assoc (bytes_of c) (bytes_of_all cs) u)

    apart : p ++ (bytes_of_all (c ∷ cs) ++ u) ≡ (p ++ bytes_of c) ++ (bytes_of_all cs ++ u)
    apart = joined ∙ sym (append_assoc p (bytes_of c) (bytes_of_all cs ++ u))

    first : command_at (p ++ (bytes_of_all (c ∷ cs) ++ u)) (length p) ≡ c
    first = ap (λ (s : List ℕ). command_at s (length p)) joined ∙ command_after p c (bytes_of_all cs ++ u) r.0

-- the bytes that were written are those of the commands
pub bytes_stand : (rs : List Command) (b₀ b : List ℕ) → b ≡ over (bytes_of_all rs) b₀ → take (8 * length rs) b ≡ bytes_of_all rs
bytes_stand rs b₀ b e =
    ap (take (8 * length rs)) e
    ∙ (ap (λ (n : ℕ). take n (over (bytes_of_all rs) b₀)) (sym (length_bytes rs)) ∙ take-append_seam (bytes_of_all rs) (drop (length (bytes_of_all rs)) b₀))

pub read_whole : (rs : List Command) → Each Readable rs → commands_in (bytes_of_all rs) ≡ rs
read_whole rs r =
    let count : length (bytes_of_all rs) / 8 ≡ length rs = omega (arith, length_bytes rs) in
    ap (λ (n : ℕ). commands_from (bytes_of_all rs) n 0) count
    ∙ (ap (λ (s : List ℕ). commands_from s (length rs) 0) (sym (append-nil (bytes_of_all rs))) ∙ read_back [] rs [] r)
