-- Document 02, request 10: the public calls that tell whether a schedule serves a list, as a single list, which is part of the single claim of `Calls`.
-- R is table A with RFC 50; of `three` transactions the second is a refresh.
use Rattle.std.specs.Prelude.{ℕ, true, false, ◌≡◌, List, [], ◌∷◌, ◌++◌, length, replicate, Result}
use Rattle.serves.specs.declared.answer.Served.{Served}
use Rattle.records.specs.declared.refusal.Refusal.{Refusal}
use Rattle.records.specs.declared.command.Kind.TheVariants.{Act, Ref}
use Rattle.records.specs.Command.{command, bytes_of_all}
use Rattle.rules.specs.Worked.{read, refreshed, one, All}
use Rattle.rules.specs.WorkedGroups.{hidden_act}
use Rattle.rules.specs.WorkedArrivals.{read_at}
use Rattle.serves.specs.Worked.{three, without, too_soon, outside_before}
use Rattle.lists.specs.Check.{check_list}
use Rattle.lists.specs.Packed.{records_of}
use Rattle.promises.specs.Admit.{admitted}
use Rattle.promises.specs.Serving.{Serving}
use Rattle.promises.specs.Numbers.{telling, serves_numbers}
use Rattle.demands.specs.Handed.{A, D, R, ccd1, cut, fine, out, told, ServesTo, ServesToBytes}

-- of a lent run of records
abbrev pub serves_lent : List (Type 0)
serves_lent =
    -- 1 before 2, 2 before 10, 10 before 3, 3 before 4, 4 before 7, 7
    ServesTo 8 cut [] [] (told 1 0 0)
    ∷ ServesTo 8 ccd1 [] [] (told 2 0 0)
    ∷ ServesTo 8 A (replicate 257 out) (0 ∷ []) (told 10 7 7)
    ∷ ServesTo 7 A (replicate 257 out) (0 ∷ []) (told 3 0 7)
    ∷ ServesTo 7 A (fine ∷ out ∷ []) (0 ∷ []) (told 4 1 7)
    ∷ ServesTo 7 A (fine ∷ []) (bytes_of_all one ++ (0 ∷ [])) (told 7 0 7)
    -- 69,632 records, and one more
    ∷ ((s : List ℕ) (r : Result (ℕ × Served) Refusal) → length s ≡ 557056 → Serving (λ τ. check_list τ (fine ∷ [])) (admitted 7 A) (fine ∷ []) s r → (serves_numbers r).refused ≡ 0)
    ∷ ((s : List ℕ) → length s ≡ 557064 → ServesTo 7 A (fine ∷ []) s (told 7 0 7))
    -- it serves; "the judge's verdict comes first", rule 12 and record 3, whoever is at fault; "then the lowest transaction at fault"; the list's length,
    -- where a record's number is outside
    ∷ ServesTo 7 R three (bytes_of_all refreshed) (telling 7 [])
    ∷ ServesTo 7 R three (bytes_of_all too_soon) (telling 7 (12 ∷ 3 ∷ []))
    ∷ ServesTo 7 R three (bytes_of_all without) (telling 7 (1 ∷ []))
    ∷ ServesTo 7 R three (bytes_of_all outside_before) (telling 7 (3 ∷ []))
    -- in groups; "Arrivals aren't looked at", but by number 4
    ∷ ServesTo 7 D (read 0 2 1 ∷ read 4 1 1 ∷ []) (bytes_of_all (hidden_act 20)) (telling 7 [])
    ∷ ServesTo 7 A (read_at 20000000 0 ∷ []) (bytes_of_all one) (telling 7 [])
    ∷ ServesTo 7 A (read_at 20000001 0 ∷ []) (bytes_of_all one) (told 4 0 7)
    -- an empty list: with no records, with one, and with one that leaves its bank open
    ∷ ServesTo 7 A [] [] (telling 7 [])
    ∷ ServesTo 7 R [] (bytes_of_all (command 0 Ref 0 0 ∷ [])) (telling 7 (0 ∷ []))
    ∷ ServesTo 7 R [] (bytes_of_all (command 0 Act 0 0 ∷ [])) (telling 7 (10 ∷ 1 ∷ []))
    ∷ []

-- of bytes, records of 4 and of 8
abbrev pub serves_bytes : List (Type 0)
serves_bytes =
    ServesToBytes false 8 A (0 ∷ []) (0 ∷ []) (told 10 7 7)
    ∷ ServesToBytes false 7 A (records_of false (out ∷ []) ++ (0 ∷ [])) (0 ∷ []) (told 3 0 7)
    ∷ ServesToBytes false 7 A (records_of false (fine ∷ out ∷ [])) (0 ∷ []) (told 4 1 7)
    ∷ ServesToBytes false 7 A (records_of false (fine ∷ [])) (0 ∷ []) (told 7 0 7)
    ∷ ServesToBytes false 7 R (records_of false three) (bytes_of_all refreshed) (telling 7 [])
    ∷ ServesToBytes false 7 R (records_of false three) (bytes_of_all too_soon) (telling 7 (12 ∷ 3 ∷ []))
    ∷ ServesToBytes false 7 R (records_of false three) (bytes_of_all without) (telling 7 (1 ∷ []))
    ∷ ((b s : List ℕ) → length b ≡ 1028 → ServesToBytes false 7 A b s (told 3 0 7))
    ∷ ServesToBytes true 8 A (0 ∷ []) (0 ∷ []) (told 10 7 7)
    -- "for the new one number 3 wants a multiple of 8"
    ∷ ServesToBytes true 7 A (records_of false (out ∷ [])) (0 ∷ []) (told 3 0 7)
    ∷ ServesToBytes true 7 A (records_of true (read_at 5 0 ∷ read_at 4 1 ∷ [])) (0 ∷ []) (told 4 1 7)
    ∷ ServesToBytes true 7 A (records_of true (read_at 5 0 ∷ [])) (0 ∷ []) (told 7 0 7)
    ∷ ServesToBytes true 7 A (records_of true (read_at 25 0 ∷ [])) (bytes_of_all one) (telling 7 [])
    ∷ ServesToBytes true 7 R (records_of true three) (bytes_of_all too_soon) (telling 7 (12 ∷ 3 ∷ []))
    ∷ ServesToBytes true 7 R (records_of true three) (bytes_of_all outside_before) (telling 7 (3 ∷ []))
    ∷ ((b s : List ℕ) → length b ≡ 2056 → ServesToBytes true 7 A b s (told 3 0 7))
    ∷ []

abbrev pub serves_calls : List (Type 0)
serves_calls = All serves_lent ∷ All serves_bytes ∷ []
