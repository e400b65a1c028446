-- One text for each input, and so one content of the buffer and one length.
use Rattle.std.specs.Prelude.{ℕ, ◌≡◌, List}
use Rattle.text.specs.Puts.{Writes}
use Rattle.listed.specs.Listing.{Lists}

-- x and y are two texts, m with k and n with l two lengths and buffers, that keep the promise
pub record Only (input : List ℕ) : Type 0 where
  pub text : (x y : List ℕ) → Lists input x → Lists input y → x ≡ y
  pub written : (s : List ℕ) (m n : ℕ) (k l : List ℕ) → Writes (Lists input) m s k → Writes (Lists input) n s l → (m ≡ n) × (k ≡ l)
