-- Document 01, "Timing rules": the table of rules, "against all records before it", which stand newest first.
use Rattle.std.specs.Prelude.{ℕ, zero, suc, ◌+◌, max, Bool, true, false, not, ◌&&◌, ◌||◌, List, [], ◌∷◌, leb, ltb, eqb, Some, None}
use Rattle.rules.specs.Types.{Stamp}
use Rattle.rules.specs.Types.{Found}
use Rattle.records.specs.Tests.{pick, every, every_below}
use Rattle.records.specs.declared.table.Table.{Table}
use Rattle.records.specs.declared.command.Kind.{Kind}
use Rattle.records.specs.declared.command.Kind.TheVariants.{Act, Rd, Rda, Wr, Wra, Ref, Other}
use Rattle.records.specs.declared.command.Command.{Command}
use Rattle.rules.specs.Kinds.{is_act, is_rd, is_wr, is_ref, is_known, first_broken, rules_in_order}
use Rattle.rules.specs.Square.{group_of, rrd_of, from_rd, from_wr, write_tail}
use Rattle.rules.specs.State.{past}

-- rule 1: "kind above 4, or bank not below banks"; it "admits kind 5 with bank 0 only" (document 02, request 5)
abbrev pub in_table : Table → Kind → ℕ → Bool
in_table τ k b = is_known k && (ltb b τ.banks && (not (is_ref k) || eqb b 0))

-- rule 2: "cycle not greater than the record's before it"
abbrev pub later : ℕ → List Command → Bool
later t [] = true
later t (r ∷ h) = ltb r.cycle t

-- rule 3: a bank is open from its ACT to the data command with auto precharge. (A data command finds its bank open in a legal history.)
abbrev pub open_after : Kind → Bool → Bool
open_after Act o = true
open_after Rd o = true
open_after Rda o = false
open_after Wr o = true
open_after Wra o = false
open_after Ref o = o
open_after (Other n) o = o

abbrev pub open_in : ℕ → List Command → Bool
open_in b [] = false
open_in b (r ∷ h) = pick (eqb r.bank b) (open_after r.kind (open_in b h)) (open_in b h)

-- the cycle of the bank's last ACT
abbrev pub act_in : ℕ → List Command → Stamp
act_in b [] = None
act_in b (r ∷ h) = pick (eqb r.bank b && is_act r.kind) (Some r.cycle) (act_in b h)

-- the greater of a cycle and a stamp
abbrev pub greater : ℕ → Stamp → Stamp
greater n None = Some n
greater n (Some c) = Some (max n c)

-- (Before a bank's first ACT every RD and WR counts; a legal history has none there.)
-- "A bank's precharge starts at the greatest of: its ACT + RAS, each RD since that ACT + RTP, each WR since that ACT + WL + B + WR."
abbrev pub precharge_after : Table → ℕ → Kind → Stamp → Stamp
precharge_after τ c Act s = Some (c + τ.ras)
precharge_after τ c Rd s = greater (c + τ.rtp) s
precharge_after τ c Rda s = greater (c + τ.rtp) s
precharge_after τ c Wr s = greater (c + write_tail τ) s
precharge_after τ c Wra s = greater (c + write_tail τ) s
precharge_after τ c Ref s = s
precharge_after τ c (Other n) s = s

abbrev pub precharge_in : Table → ℕ → List Command → Stamp
precharge_in τ b [] = None
precharge_in τ b (r ∷ h) = pick (eqb r.bank b) (precharge_after τ r.cycle r.kind (precharge_in τ b h)) (precharge_in τ b h)

-- the cycle of the n-th ACT back, from 0
abbrev pub act_back : ℕ → List Command → Stamp
act_back n [] = None
act_back zero (r ∷ h) = pick (is_act r.kind) (Some r.cycle) (act_back zero h)
act_back (suc n) (r ∷ h) = pick (is_act r.kind) (act_back n h) (act_back (suc n) h)

-- rule 7: "the fourth ACT before it"
abbrev pub fourth_act : List Command → Stamp
fourth_act h = act_back 3 h

-- cycle t is at least d after a record, if that is of the kinds p
abbrev pub far : (Kind → Bool) → ℕ → ℕ → Command → Bool
far p d t r = not (p r.kind) || leb (r.cycle + d) t

-- a record to a bank of bank b's group
abbrev pub near_to : Table → ℕ → Command → Bool
near_to τ b r = eqb (group_of τ r.bank) (group_of τ b)

-- rule 6: an ACT to bank b at cycle t is far enough from an earlier ACT. Rules 6 and 9 look "over all earlier commands, since a neighbour in
-- another group hides an older one"
abbrev pub far_act : Table → ℕ → ℕ → Command → Bool
far_act τ b t r = far is_act (rrd_of τ (near_to τ b r)) t r

-- rule 9: a data command to bank b at cycle t, a write or not, is no nearer to an earlier one than their distance
abbrev pub far_data : Table → Bool → ℕ → ℕ → Command → Bool
far_data τ w b t r = far is_rd (from_rd τ (near_to τ b r) w) t r && far is_wr (from_wr τ (near_to τ b r) w) t r

-- rule 11: "a REF with a bank open or before a bank's precharge start + RP"
abbrev pub at_rest_in : Table → ℕ → List Command → ℕ → Bool
at_rest_in τ t h b = not (open_in b h) && past (precharge_in τ b h) τ.rp t

abbrev pub all_at_rest : Table → ℕ → List Command → Bool
all_at_rest τ t h = every_below τ.banks (at_rest_in τ t h)

-- rule 12: "an ACT or REF less than RFC after a REF"
abbrev pub far_refresh : Table → ℕ → Command → Bool
far_refresh τ t r = far is_ref τ.rfc t r

-- rules 3 to 12 for an ACT to bank b at cycle t: an open bank, precharge start + RP, RC, RRD, FAW, RFC; rules 8, 9 and 11 do not apply
abbrev pub act_rules : Table → ℕ → ℕ → List Command → List Bool
act_rules τ t b h =
    not (open_in b h) ∷ past (precharge_in τ b h) τ.rp t ∷ past (act_in b h) τ.rc t ∷ every (far_act τ b t) h
    ∷ past (fourth_act h) τ.faw t ∷ true ∷ true ∷ true ∷ every (far_refresh τ t) h ∷ []

-- rules 3 to 12 for a REF: rules 11 and 12; the others do not apply
abbrev pub refresh_rules : Table → ℕ → List Command → List Bool
refresh_rules τ t h = true ∷ true ∷ true ∷ true ∷ true ∷ true ∷ true ∷ all_at_rest τ t h ∷ every (far_refresh τ t) h ∷ []

-- rules 3 to 9 for a data command: a closed bank, RCD, the distances; rules 4 to 7, 11 and 12 do not apply
abbrev pub data_rules : Table → Bool → ℕ → ℕ → List Command → List Bool
data_rules τ w t b h =
    open_in b h ∷ true ∷ true ∷ true ∷ true ∷ past (act_in b h) τ.rcd t ∷ every (far_data τ w b t) h ∷ []

abbrev pub rules_by : Table → Kind → ℕ → ℕ → List Command → List Bool
rules_by τ Act t b h = act_rules τ t b h
rules_by τ Rd t b h = data_rules τ false t b h
rules_by τ Rda t b h = data_rules τ false t b h
rules_by τ Wr t b h = data_rules τ true t b h
rules_by τ Wra t b h = data_rules τ true t b h
rules_by τ Ref t b h = refresh_rules τ t h
rules_by τ (Other n) t b h = []

-- rules 1 to 9, 11 and 12, in the order of their numbers, for a record after the history h
abbrev pub rules : Table → Command → List Command → List Bool
rules τ r h = in_table τ r.kind r.bank ∷ later r.cycle h ∷ rules_by τ r.kind r.cycle r.bank h

-- "A record breaks the first of these that applies, against all records before it"
abbrev pub broken : Table → Command → List Command → Found
broken τ r h = first_broken (rules τ r h) rules_in_order

abbrev pub is_fine : Found → Bool
is_fine None = true
is_fine (Some r) = false
