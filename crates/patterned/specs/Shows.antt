-- What the program shows, in document 02's words and without bytes or buffers: the table's refusal, number 4, number 13 exactly if there is no pattern, or
-- the shortest. Number 5 is never told, since there is room for six records.
use Rattle.std.specs.Prelude.{ℕ, ◌≡◌, true, false, ◌⊎◌, List, eqb, Ok, Err}
use Rattle.records.specs.Told.{refusal}
use Rattle.records.specs.declared.table.Table.{Table}
use Rattle.records.specs.declared.refusal.Refusal.{Refusal}
use Rattle.records.specs.declared.command.Command.{Command}
use Rattle.shortest.specs.Shortest.{Shortest, NoneUpTo}
use Rattle.shortest.specs.Answer.{is_asked}
use Rattle.promises.specs.Admit.{admitted}
use Rattle.lines.specs.Lines.{refused_line}
use Rattle.patterned.specs.Pattern.{pattern_text}

module _ (τ : Table) (type bi bc most : ℕ) (text : List ℕ) where
  -- "Inputs outside these limits .. get number 4"
  pub record Shows4 : Type 0 where
    pub limits : is_asked τ.banks type bi bc most ≡ false
    pub is : text ≡ refused_line (refusal 4 0 τ.edition)

  -- "refused as number 13 exactly if none exists up to the greatest length"
  pub record Shows13 : Type 0 where
    pub limits : is_asked τ.banks type bi bc most ≡ true
    pub none : NoneUpTo τ (eqb type 1) bi bc most
    pub is : text ≡ refused_line (refusal 13 0 τ.edition)

  -- "the least L" and "the one whose records .. come first"
  pub record ShowsPattern : Type 0 where
    pub limits : is_asked τ.banks type bi bc most ≡ true
    pub L : ℕ
    pub pattern : List Command
    pub shortest : Shortest τ (eqb type 1) bi bc most L pattern
    pub is : text ≡ pattern_text τ.edition L pattern

-- numbers 1, 2 and 10; or what is told under the table that was admitted
abbrev pub Shows : ℕ → List ℕ → ℕ → ℕ → ℕ → ℕ → List ℕ → Type 0
Shows expected table type bi bc most text =
    ((x : Refusal) × (admitted expected table ≡ Err x) × (text ≡ refused_line x))
    ⊎ ((τ : Table) × (admitted expected table ≡ Ok τ)
    × (Shows4 τ type bi bc most text ⊎ (Shows13 τ type bi bc most text ⊎ ShowsPattern τ type bi bc most text)))
