-- What the worked calls are handed, and how what they tell is written.
use Rattle.std.specs.Prelude.{ℕ, Bool, ◌≡◌, List, [], ◌∷◌, ◌++◌, take, set, replicate, Result}
use Rattle.rules.specs.declared.verdict.PatternVerdict.{PatternVerdict}
use Rattle.records.specs.declared.refusal.Refusal.{Refusal}
use Rattle.serves.specs.declared.answer.Served.{Served}
use Rattle.records.specs.declared.transaction.Transaction.{Transaction}
use Rattle.records.specs.declared.command.Command.{Command}
use Rattle.records.specs.Told.{refusal, Wrote}
use Rattle.records.specs.Little.{bytes16}
use Rattle.records.specs.Transaction.{list_of}
use Rattle.records.specs.Command.{bytes_of_all}
use Rattle.records.specs.House.{house, numbers_a, numbers_b, numbers_c, numbers_d}
use Rattle.rules.specs.Worked.{read}
use Rattle.stamps.specs.declared.one_record.CaptureRecord.{CaptureRecord}
use Rattle.stamps.specs.Record.{capture_record, bytes_of_record}
use Rattle.lists.specs.Check.{check_list, check_bytes}
use Rattle.controller.specs.declared.controller.Controller.{Controller}
use Rattle.promises.specs.Admit.{admitted}
use Rattle.promises.specs.Judging.{judging, PatternTold}
use Rattle.promises.specs.Tracing.{capturing}
use Rattle.promises.specs.Bounds.{bounding}
use Rattle.promises.specs.Transactions.{reading}
use Rattle.promises.specs.Schedules.{Schedules}
use Rattle.promises.specs.Running.{running}
use Rattle.promises.specs.Serving.{Serving}
use Rattle.promises.specs.Numbers.{Numbers, refusing, written_numbers, judged_numbers, pattern_numbers, capture_numbers, serves_numbers, bound_numbers, read_numbers, build_numbers, run_numbers}

-- ---- what is handed in

-- the 32 bytes of tables A, B and C; of A with RC 50; of A with CCD 1, which number 2 refuses; and 31 bytes of that, which number 1 refuses first
abbrev pub A : List ℕ
A = bytes16 numbers_a

abbrev pub B : List ℕ
B = bytes16 numbers_b

abbrev pub C : List ℕ
C = bytes16 numbers_c

abbrev pub A50 : List ℕ
A50 = bytes16 (7 ∷ 8 ∷ 4 ∷ 4 ∷ 10 ∷ 10 ∷ 28 ∷ 50 ∷ 6 ∷ 32 ∷ 10 ∷ 8 ∷ 6 ∷ 12 ∷ 6 ∷ 0 ∷ [])

abbrev pub ccd1 : List ℕ
ccd1 = bytes16 (7 ∷ 8 ∷ 4 ∷ 1 ∷ 10 ∷ 10 ∷ 28 ∷ 38 ∷ 6 ∷ 32 ∷ 10 ∷ 8 ∷ 6 ∷ 12 ∷ 6 ∷ 0 ∷ [])

abbrev pub cut : List ℕ
cut = take 31 ccd1

-- of A with an RFC; of A with RFC 50; and of that with RRD 200
abbrev pub with_rfc : ℕ → List ℕ
with_rfc rfc = bytes16 (house 32 6 rfc)

abbrev pub R : List ℕ
R = with_rfc 50

abbrev pub R200 : List ℕ
R200 = bytes16 (7 ∷ 8 ∷ 4 ∷ 4 ∷ 10 ∷ 10 ∷ 28 ∷ 38 ∷ 200 ∷ 32 ∷ 10 ∷ 8 ∷ 6 ∷ 12 ∷ 6 ∷ 50 ∷ [])

-- the 40 bytes of table D; the numbers of A in so many groups, with a long CCD, RRD and WTR
abbrev pub D : List ℕ
D = bytes16 numbers_d

abbrev pub in_groups : ℕ → ℕ → ℕ → ℕ → List ℕ
in_groups n ccd rrd wtr = numbers_a ++ (n ∷ ccd ∷ rrd ∷ wtr ∷ [])

-- sixteen numbers with A's CCD, RRD and WTR: "one group, each long number equal to its short one" (document 02, request 7)
abbrev pub alone : List ℕ → List ℕ
alone l = l ++ (1 ∷ 4 ∷ 6 ∷ 6 ∷ [])

-- a read that fits the table, and one that does not
abbrev pub fine : Transaction
fine = read 0 1 1

abbrev pub out : Transaction
out = read 8 1 1

-- the bytes of a capture; its ticks, and commands of a kind at a stamp, on bank 0
abbrev pub trace : List CaptureRecord → List ℕ
trace [] = []
trace (x ∷ l) = bytes_of_record x ++ trace l

abbrev pub tick : ℕ → CaptureRecord
tick t = capture_record t 255 0

abbrev pub seen : ℕ → ℕ → CaptureRecord
seen t kind = capture_record t kind 0

-- the number that stands for "never"
abbrev pub never : ℕ
never = 4294967295

-- a controller of an edition and a cycle, from whose queues so many commands have gone, and whose last REF went at a cycle; nothing else has
-- happened to it, and nothing was lent to it before
abbrev pub refreshed : ℕ → ℕ → ℕ → ℕ → ℕ → Controller
refreshed e t acts datas c =
    record {
      edition = e;
      cycle = t;
      acts = acts;
      datas = datas;
      banks = replicate 16 (record { opened = 0; act = never; rd = never; wr = never });
      last = replicate 4 never;
      groups = replicate 8 (record { act = never; rd = never; wr = never });
      refresh = c;
      lent = 0;
    }

-- and one that never had a REF
abbrev pub gone : ℕ → ℕ → ℕ → ℕ → Controller
gone e t acts datas = refreshed e t acts datas never

-- a controller, but for the latest ACT, RD and WR of a group
abbrev pub reached : Controller → ℕ → ℕ → ℕ → ℕ → Controller
reached c g act rd wr =
    record {
      edition = c.edition;
      cycle = c.cycle;
      acts = c.acts;
      datas = c.datas;
      banks = c.banks;
      last = c.last;
      groups = set c.groups g (record { act = act; rd = rd; wr = wr });
      refresh = c.refresh;
      lent = c.lent;
    }

-- a controller, but that so many transactions were lent to it before
abbrev pub lent_before : ℕ → Controller → Controller
lent_before n c =
    record {
      edition = c.edition;
      cycle = c.cycle;
      acts = c.acts;
      datas = c.datas;
      banks = c.banks;
      last = c.last;
      groups = c.groups;
      refresh = c.refresh;
      lent = n;
    }

-- ---- what is told

-- a refusal by a number, at a position, with an edition
abbrev pub told : ℕ → ℕ → ℕ → Numbers
told n p e = refusing (refusal n p e)

abbrev pub judges : ℕ → List ℕ → List Command → Numbers
judges e t rs = judged_numbers (judging (admitted e t) (bytes_of_all rs))

abbrev pub judges_bytes : ℕ → List ℕ → List ℕ → Numbers
judges_bytes e t s = judged_numbers (judging (admitted e t) s)

-- whatever answer keeps the promise tells these numbers
abbrev pub Patterns : ℕ → List ℕ → List ℕ → ℕ → Numbers → Type 0
Patterns e t s L n = (r : Result (ℕ × PatternVerdict) Refusal) → PatternTold (admitted e t) s L r → pattern_numbers r ≡ n

-- judging a capture, with a buffer that held b₀, tells these numbers, and leaves b in it
abbrev pub Traces : ℕ → List ℕ → List ℕ → List ℕ → Numbers → List ℕ → Type 0
Traces e t s b₀ n b = (capture_numbers (capturing (admitted e t) s b₀).answer ≡ n) × ((capturing (admitted e t) s b₀).buffer ≡ b)

abbrev pub bounds : ℕ → List ℕ → ℕ → ℕ → Numbers
bounds e t bi bc = bound_numbers (bounding (admitted e t) bi bc)

-- bytes of a list are records of 8 where `later`, else of 4
abbrev pub reads : Bool → ℕ → List ℕ → List ℕ → List Transaction → Numbers
reads later e t s l = read_numbers (reading later (admitted e t) s l).answer

-- whatever answer and buffers keep the promise, the answer tells these numbers and the buffers hold b and f
abbrev pub Builds : ℕ → List ℕ → List Transaction → List ℕ → List ℕ → Numbers → List ℕ → List ℕ → Type 0
Builds e t l b₀ f₀ n b f =
    (r : Result (ℕ × ℕ) Refusal) (b' f' : List ℕ) → Schedules (λ τ. check_list τ l) (admitted e t) l b₀ b' f₀ f' r → (build_numbers r ≡ n) × (b' ≡ b) × (f' ≡ f)

abbrev pub BuildsBytes : Bool → ℕ → List ℕ → List ℕ → List ℕ → List ℕ → Numbers → List ℕ → List ℕ → Type 0
BuildsBytes later e t s b₀ f₀ n b f =
    (r : Result (ℕ × ℕ) Refusal) (b' f' : List ℕ) → Schedules (λ τ. check_bytes later τ s) (admitted e t) (list_of later s) b₀ b' f₀ f' r → (build_numbers r ≡ n) × (b' ≡ b) × (f' ≡ f)

-- whatever is answered of a list and a schedule's bytes s, it tells these numbers
abbrev pub ServesTo : ℕ → List ℕ → List Transaction → List ℕ → Numbers → Type 0
ServesTo e t l s n = (r : Result (ℕ × Served) Refusal) → Serving (λ τ. check_list τ l) (admitted e t) l s r → serves_numbers r ≡ n

abbrev pub ServesToBytes : Bool → ℕ → List ℕ → List ℕ → List ℕ → Numbers → Type 0
ServesToBytes later e t b s n = (r : Result (ℕ × Served) Refusal) → Serving (λ τ. check_bytes later τ b) (admitted e t) (list_of later b) s r → serves_numbers r ≡ n

abbrev pub runs : ℕ → List ℕ → Controller → List Transaction → ℕ → ℕ → Numbers
runs e t c l n room = run_numbers (running (λ τ. check_list τ l) (admitted e t) c l n (replicate room 9)).told.answer

abbrev pub runs_bytes : Bool → ℕ → List ℕ → Controller → List ℕ → ℕ → ℕ → Numbers
runs_bytes later e t c s n room = run_numbers (running (λ τ. check_bytes later τ s) (admitted e t) c (list_of later s) n (replicate room 9)).told.answer

abbrev pub Writes : Wrote → Numbers → List ℕ → Type 0
Writes w n b = (written_numbers w.answer ≡ n) × (w.buffer ≡ b)
