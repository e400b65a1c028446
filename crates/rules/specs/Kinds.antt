-- "RD meaning RD or RDA and WR meaning WR or WRA"; the rules in the order of their numbers. REF is document 02's, request 5.
use Rattle.std.specs.Prelude.{Bool, true, false, ◌||◌, List, [], ◌∷◌, Some, None}
use Rattle.rules.specs.Types.{Found}
use Rattle.records.specs.declared.command.Kind.{Kind}
use Rattle.records.specs.declared.command.Kind.TheVariants.{Act, Rd, Rda, Wr, Wra, Ref, Other}
use Rattle.rules.specs.declared.verdict.Rule.{Rule}
use Rattle.rules.specs.declared.verdict.Rule.TheVariants.{Range, Order, Opened, Precharge, Rc, Rrd, Faw, Rcd, Distance, Refresh, Rfc}

abbrev pub is_act : Kind → Bool
is_act Act = true
is_act Rd = false
is_act Rda = false
is_act Wr = false
is_act Wra = false
is_act Ref = false
is_act (Other n) = false

abbrev pub is_rd : Kind → Bool
is_rd Act = false
is_rd Rd = true
is_rd Rda = true
is_rd Wr = false
is_rd Wra = false
is_rd Ref = false
is_rd (Other n) = false

abbrev pub is_wr : Kind → Bool
is_wr Act = false
is_wr Rd = false
is_wr Rda = false
is_wr Wr = true
is_wr Wra = true
is_wr Ref = false
is_wr (Other n) = false

-- with auto precharge
abbrev pub is_closing : Kind → Bool
is_closing Act = false
is_closing Rd = false
is_closing Rda = true
is_closing Wr = false
is_closing Wra = true
is_closing Ref = false
is_closing (Other n) = false

abbrev pub is_ref : Kind → Bool
is_ref Act = false
is_ref Rd = false
is_ref Rda = false
is_ref Wr = false
is_ref Wra = false
is_ref Ref = true
is_ref (Other n) = false

-- a data command
abbrev pub is_data : Kind → Bool
is_data k = is_rd k || is_wr k

-- a command of the ACT queue: an ACT, or a REF, which "stands in the ACT queue"
abbrev pub in_act_queue : Kind → Bool
in_act_queue k = is_act k || is_ref k

-- a transaction's last command: a data command, or its REF
abbrev pub can_end : Kind → Bool
can_end k = is_data k || is_ref k

-- no kind above 5
abbrev pub is_known : Kind → Bool
is_known Act = true
is_known Rd = true
is_known Rda = true
is_known Wr = true
is_known Wra = true
is_known Ref = true
is_known (Other n) = false

-- the rules that one record is tested by, in the order of their numbers; 11 and 12 "are tested after rule 9"
abbrev pub rules_in_order : List Rule
rules_in_order = Range ∷ Order ∷ Opened ∷ Precharge ∷ Rc ∷ Rrd ∷ Faw ∷ Rcd ∷ Distance ∷ Refresh ∷ Rfc ∷ []

-- "A record breaks the first of these that applies": of tests in the order of the rules, the rule of the first that fails
abbrev pub first_broken : List Bool → List Rule → Found
first_broken [] rs = None
first_broken (t ∷ ts) [] = None
first_broken (true ∷ ts) (r ∷ rs) = first_broken ts rs
first_broken (false ∷ ts) (r ∷ rs) = Some r
