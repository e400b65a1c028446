-- The numbers that a run keeps tell what the controller's tell.
-- Assumes nothing.
use Prim.Native.Nat.{ℕ, ◌+◌, ◌<◌}
use mathlib.Core.Path.{◌≡◌}
use mathlib.Core.List.{List, map}
use lib.ListN.{get_or, set, get_or-map}
use Rattle.sound.proofs.Laws.{Filled, fill_turn}
use Rattle.timing.proofs.Telling.{map_set}
use Rattle.controller.specs.declared.controller.HostBank.{HostBank}
use Rattle.controller.specs.declared.controller.HostGroup.{HostGroup}

abbrev pub zeros : HostBank
zeros = record { opened = 0; act = 0; rd = 0; wr = 0 }

abbrev pub zero_group : HostGroup
zero_group = record { act = 0; rd = 0; wr = 0 }

-- a bank or a group more is kept, where `told` says what the kept tells and `tells` what the host's does
pub in_turn : {A B C : Type 0} (N : ℕ) (told : B → C) (tells : A → C) (x : A) (ks : List A) (kept : List B) (i : ℕ) (v : B)
    → Filled N tells x ks (map told kept) i → i < N → told v ≡ tells (get_or ks i x) → Filled N tells x ks (map told (set kept i v)) (i + 1)
in_turn N told tells x ks kept i v h p e = rw (map_set told kept i v) (fill_turn N tells x ks (map told kept) i (told v) h p e)

-- and a bank or a group more is held
pub held_turn : {A B C : Type 0} (N : ℕ) (told : B → C) (keeps : C → A) (x : B) (ks : List B) (held : List A) (k : ℕ) (v : A)
    → Filled N keeps (told x) (map told ks) held k → k < N → v ≡ keeps (told (get_or ks k x)) → Filled N keeps (told x) (map told ks) (set held k v) (k + 1)
held_turn N told keeps x ks held k v h p e = fill_turn N keeps (told x) (map told ks) held k v h p (rw (get_or-map told ks k x) e)
