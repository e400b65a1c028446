-- "Requests may come in pieces: each run is lent the whole list so far" (document 02, request 9), of runs of the controller.
use Rattle.std.specs.Prelude.{ℕ, ◌+◌, ◌*◌, ◌≤◌, ◌≡◌, List, [], ◌∷◌, ◌++◌, take, Ok}
use Rattle.records.specs.declared.transaction.Transaction.{Transaction}
use Rattle.controller.specs.declared.controller.Controller.{Controller}
use Rattle.controller.specs.declared.run.RunReport.{RunReport}
use Rattle.controller.specs.Run.{RunLeft}

-- a piece: the new transactions, the count of its run, what the run's buffer held, and what the run reports
pub record Lot : Type 0 where
  pub more : List Transaction
  pub count : ℕ
  pub buffer : List ℕ
  pub report : RunReport

-- the list that the pieces make
abbrev pub all_of : List Lot → List Transaction
all_of [] = []
all_of (p ∷ ps) = p.more ++ all_of ps

-- the cycles of their runs together
abbrev pub all_cycles : List Lot → ℕ
all_cycles [] = 0
all_cycles (p ∷ ps) = p.report.cycles + all_cycles ps

-- `run` is what a run of a controller over a list, of so many cycles and with this buffer, leaves; l was lent before the pieces
module _ (run : Controller → List Transaction → ℕ → List ℕ → RunLeft) where
  abbrev pub lot_run : Lot → List Transaction → Controller → RunLeft
  lot_run p l c = run c (l ++ p.more) p.count p.buffer

  -- none of the pieces is refused
  abbrev pub AllRan : List Lot → List Transaction → Controller → Type 0
  AllRan [] l c = Unit {0}
  AllRan (p ∷ ps) l c = ((lot_run p l c).told.answer ≡ Ok p.report) × AllRan ps (l ++ p.more) (lot_run p l c).told.controller

  -- the controller that the last leaves
  abbrev pub last_left : List Lot → List Transaction → Controller → Controller
  last_left [] l c = c
  last_left (p ∷ ps) l c = last_left ps (l ++ p.more) (lot_run p l c).told.controller

  -- the commands of all, one run's after the other's
  abbrev pub all_written : List Lot → List Transaction → Controller → List ℕ
  all_written [] l c = []
  all_written (p ∷ ps) l c = take (8 * p.report.commands) (lot_run p l c).buffer ++ all_written ps (l ++ p.more) (lot_run p l c).told.controller

  -- what the pieces leave is what one run leaves that reports x: the controller, and the commands
  abbrev pub Alike : Controller → List Lot → RunLeft → RunReport → Type 0
  Alike c ps w x = (last_left ps [] c ≡ w.told.controller) × (all_written ps [] c ≡ take (8 * x.commands) w.buffer)

  -- "From a fresh state, any cutting without refusal, run to the end, gives the commands of the whole list", and the controller and the cycles of
  -- one run
  pub record AsWhole (c : Controller) (ps : List Lot) : Type 0 where
    -- every run of the whole list that reports as many cycles as the pieces together leaves what they leave, to the end or not
    pub alike : AllRan ps [] c → (n : ℕ) (b : List ℕ) (x : RunReport) → (run c (all_of ps) n b).told.answer ≡ Ok x → all_cycles ps ≡ x.cycles
        → Alike c ps (run c (all_of ps) n b) x
    -- one of just so many cycles reports them
    pub as_many : AllRan ps [] c → (b : List ℕ) (x : RunReport) → (run c (all_of ps) (all_cycles ps) b).told.answer ≡ Ok x → all_cycles ps ≡ x.cycles
    -- and so do all runs to the end: a last piece, and a run of the whole list, that may take 100,000,000 cycles
    pub to_end : AllRan ps [] c → (qs : List Lot) (p : Lot) → ps ≡ qs ++ p ∷ [] → 100000000 ≤ p.count
        → (n : ℕ) → 100000000 ≤ n → (b : List ℕ) (x : RunReport) → (run c (all_of ps) n b).told.answer ≡ Ok x → all_cycles ps ≡ x.cycles
