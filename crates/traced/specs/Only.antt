-- The text is a value of the input (`Trace.trace_of`); so there is one length of it, and one content of the buffer.
use Rattle.std.specs.Prelude.{ℕ, ◌≡◌, List}
use Rattle.traced.specs.Trace.{trace_of, Writes}

-- m with k and n with l are two lengths and buffers that keep the promise
abbrev pub Only : List ℕ → Type 0
Only input = (s : List ℕ) (m n : ℕ) (k l : List ℕ) → Writes (trace_of input) m s k → Writes (trace_of input) n s l → (m ≡ n) × (k ≡ l)
