-- The public calls that tell whether a schedule serves a list answer as the list says.
-- Assumes nothing.
use Rattle.std.specs.Prelude.{Result, Ok, Err}
use Rattle.serves.specs.declared.answer.Served.{Served}
use Rattle.records.specs.declared.refusal.Refusal.{Refusal}
use Prim.Native.Nat.{ℕ, ◌*◌, ◌%◌, ◌/◌}
use mathlib.Core.Bool.{Bool, true, false, not, ◌||◌}
use mathlib.Core.Path.{◌≡◌, refl, sym, ap, ◌∙◌, subst}
use mathlib.Core.List.{List, [], ◌∷◌, ◌++◌}
use lib.Dec.{ltb, eqb}
use lib.ListN.{length, replicate}
use Rattle.records.specs.declared.transaction.Transaction.{Transaction}
use Rattle.records.specs.declared.command.Kind.TheVariants.{Act, Ref}
use Rattle.records.specs.Told.{refusal}
use Rattle.records.specs.Table.{read_table}
use Rattle.records.specs.Transaction.{record_size, list_of, transactions_from, later_from}
use Rattle.records.specs.Command.{command, commands_from, bytes_of_all}
use Rattle.records.specs.House.{table_a, table_d}
use Rattle.rules.specs.declared.verdict.Rule.TheVariants.{End, Rfc}
use Rattle.rules.specs.Worked.{read, table_r, refreshed, one, All}
use Rattle.rules.specs.WorkedGroups.{hidden_act}
use Rattle.rules.specs.WorkedArrivals.{read_at}
use Rattle.judge.specs.Answer.{schedule_refusal}
use Rattle.serves.specs.declared.answer.Served.TheVariants.{Serves, Refused as Against, AtFault as Names}
use Rattle.serves.specs.Worked.{three, without, too_soon, outside_before}
use Rattle.serves.proofs.Worked.{found}
use Rattle.lists.specs.Check.{range_from, check_list, check_bytes}
use Rattle.lists.specs.Packed.{records_of}
use Rattle.promises.specs.Admit.{admitted}
use Rattle.promises.specs.Serving.{ServesChecked, Serving}
use Rattle.promises.specs.Numbers.{serves_numbers}
use Rattle.promises.proofs.Unique.{only}
use Rattle.demands.specs.Causes.{row, FirstRow}
use Rattle.demands.specs.Handed.{A, D, R, ccd1, cut, fine, out, told, ServesTo, ServesToBytes}
use Rattle.demands.specs.ServesCalls.{serves_lent, serves_bytes, serves_calls}
use Rattle.demands.proofs.Causes.{causes}
use Rattle.demands.proofs.CallLaws.{◌⨾◌, some, bytes_many}

-- ---- what every answer that keeps the promise tells is what one does

lent_tells : (e : ℕ) (t : List ℕ) (l : List Transaction) (s : List ℕ) (v : Result (ℕ × Served) Refusal) → Serving (λ τ. check_list τ l) (admitted e t) l s v → ServesTo e t l s (serves_numbers v)
lent_tells e t l s v w r p = ap serves_numbers ((only e t).serves l s r v p w)

bytes_tell : (later : Bool) (e : ℕ) (t b s : List ℕ) (v : Result (ℕ × Served) Refusal) → Serving (λ τ. check_bytes later τ b) (admitted e t) (list_of later b) s v
    → ServesToBytes later e t b s (serves_numbers v)
bytes_tell later e t b s v w r p = ap serves_numbers ((only e t).serves_bytes later b s r v p w)

-- ---- by length alone

few_records : (s : List ℕ) (r : Result (ℕ × Served) Refusal) → length s ≡ 557056 → Serving (λ τ. check_list τ (fine ∷ [])) (admitted 7 A) (fine ∷ []) s r → (serves_numbers r).refused ≡ 0
few_records s r e p =
    (subst (λ (n : ℕ). FirstRow (row 7 0 (not (eqb (n % 8) 0) || ltb 69632 (n / 8)) ∷ []) (serves_numbers r)) e ((causes 7 A).serves (fine ∷ []) s r p)).0

many_records : (s : List ℕ) → length s ≡ 557064 → ServesTo 7 A (fine ∷ []) s (told 7 0 7)
unfolding admitted read_table Serving ServesChecked check_list range_from
many_records s e =
    let q : schedule_refusal (length s) ≡ 7 = ap schedule_refusal e in
    lent_tells 7 A (fine ∷ []) s (Err (refusal 7 0 7)) (λ z. some 6 (sym q ∙ z), ap (λ (n : ℕ). refusal n 0 7) (sym q))

many_transactions : (later : Bool) (b s : List ℕ) → length b ≡ 257 * record_size later → ServesToBytes later 7 A b s (told 3 0 7)
unfolding admitted read_table Serving ServesChecked
many_transactions later b s e =
    bytes_tell later 7 A b s (Err (refusal 3 0 7))
    (subst (λ (c : Result Unit Refusal). ServesChecked c table_a (list_of later b) s (Err (refusal 3 0 7))) (sym (bytes_many later b e)) refl)

-- ---- the list

of_lent : All serves_lent
unfolding admitted read_table Serving ServesChecked check_list range_from commands_from
of_lent =
    lent_tells 8 cut [] [] (Err (refusal 1 0 0)) refl
    ⨾ lent_tells 8 ccd1 [] [] (Err (refusal 2 0 0)) refl
    ⨾ lent_tells 8 A (replicate 257 out) (0 ∷ []) (Err (refusal 10 7 7)) refl
    ⨾ lent_tells 7 A (replicate 257 out) (0 ∷ []) (Err (refusal 3 0 7)) refl
    ⨾ lent_tells 7 A (fine ∷ out ∷ []) (0 ∷ []) (Err (refusal 4 1 7)) refl
    ⨾ lent_tells 7 A (fine ∷ []) (bytes_of_all one ++ (0 ∷ [])) (Err (refusal 7 0 7)) (some 6, refl)
    ⨾ few_records
    ⨾ many_records
    ⨾ lent_tells 7 R three (bytes_of_all refreshed) (Ok (7, Serves)) (refl, refl, found table_r three refreshed refl refl refl refl)
    ⨾ lent_tells 7 R three (bytes_of_all too_soon) (Ok (7, Against Rfc 3)) (refl, refl, refl)
    ⨾ lent_tells 7 R three (bytes_of_all without) (Ok (7, Names 1)) (refl, refl, found table_r three without refl refl refl refl)
    ⨾ lent_tells 7 R three (bytes_of_all outside_before) (Ok (7, Names 3)) (refl, refl, found table_r three outside_before refl refl refl refl)
    ⨾ lent_tells 7 D (read 0 2 1 ∷ read 4 1 1 ∷ []) (bytes_of_all (hidden_act 20)) (Ok (7, Serves)) (refl, refl, found table_d (read 0 2 1 ∷ read 4 1 1 ∷ []) (hidden_act 20) refl refl refl refl)
    ⨾ lent_tells 7 A (read_at 20000000 0 ∷ []) (bytes_of_all one) (Ok (7, Serves)) (refl, refl, found table_a (read_at 20000000 0 ∷ []) one refl refl refl refl)
    ⨾ lent_tells 7 A (read_at 20000001 0 ∷ []) (bytes_of_all one) (Err (refusal 4 0 7)) refl
    ⨾ lent_tells 7 A [] [] (Ok (7, Serves)) (refl, refl, found table_a [] [] refl refl refl refl)
    ⨾ lent_tells 7 R [] (bytes_of_all (command 0 Ref 0 0 ∷ [])) (Ok (7, Names 0)) (refl, refl, found table_r [] (command 0 Ref 0 0 ∷ []) refl refl refl refl)
    ⨾ lent_tells 7 R [] (bytes_of_all (command 0 Act 0 0 ∷ [])) (Ok (7, Against End 1)) (refl, refl, refl)
    ⨾ tt

of_bytes : All serves_bytes
unfolding admitted read_table Serving ServesChecked check_bytes range_from transactions_from later_from commands_from
of_bytes =
    bytes_tell false 8 A (0 ∷ []) (0 ∷ []) (Err (refusal 10 7 7)) refl
    ⨾ bytes_tell false 7 A (records_of false (out ∷ []) ++ (0 ∷ [])) (0 ∷ []) (Err (refusal 3 0 7)) refl
    ⨾ bytes_tell false 7 A (records_of false (fine ∷ out ∷ [])) (0 ∷ []) (Err (refusal 4 1 7)) refl
    ⨾ bytes_tell false 7 A (records_of false (fine ∷ [])) (0 ∷ []) (Err (refusal 7 0 7)) (some 6, refl)
    ⨾ bytes_tell false 7 R (records_of false three) (bytes_of_all refreshed) (Ok (7, Serves)) (refl, refl, found table_r three refreshed refl refl refl refl)
    ⨾ bytes_tell false 7 R (records_of false three) (bytes_of_all too_soon) (Ok (7, Against Rfc 3)) (refl, refl, refl)
    ⨾ bytes_tell false 7 R (records_of false three) (bytes_of_all without) (Ok (7, Names 1)) (refl, refl, found table_r three without refl refl refl refl)
    ⨾ many_transactions false
    ⨾ bytes_tell true 8 A (0 ∷ []) (0 ∷ []) (Err (refusal 10 7 7)) refl
    ⨾ bytes_tell true 7 A (records_of false (out ∷ [])) (0 ∷ []) (Err (refusal 3 0 7)) refl
    ⨾ bytes_tell true 7 A (records_of true (read_at 5 0 ∷ read_at 4 1 ∷ [])) (0 ∷ []) (Err (refusal 4 1 7)) refl
    ⨾ bytes_tell true 7 A (records_of true (read_at 5 0 ∷ [])) (0 ∷ []) (Err (refusal 7 0 7)) (some 6, refl)
    ⨾ bytes_tell true 7 A (records_of true (read_at 25 0 ∷ [])) (bytes_of_all one) (Ok (7, Serves)) (refl, refl, found table_a (read_at 25 0 ∷ []) one refl refl refl refl)
    ⨾ bytes_tell true 7 R (records_of true three) (bytes_of_all too_soon) (Ok (7, Against Rfc 3)) (refl, refl, refl)
    ⨾ bytes_tell true 7 R (records_of true three) (bytes_of_all outside_before) (Ok (7, Names 3)) (refl, refl, found table_r three outside_before refl refl refl refl)
    ⨾ many_transactions true
    ⨾ tt

pub of_serves : All serves_calls
of_serves = of_lent ⨾ of_bytes ⨾ tt
