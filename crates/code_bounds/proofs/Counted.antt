-- A frame has each register that an instruction names.
use Rattle.std.proofs.Common.{◌≡◌, ℕ, zero, suc, ◌+◌, ◌≤◌, max, true, List, [], ◌∷◌, length, Some, nat_lt, slice_get, refl, ap, arith}
use Rattle.std.specs.List.{list_all}
use Rattle.std.proofs.lemmas.Bool.{lt-ltb}
use Rattle.tree_core.specs.Tree.{BodyOf}
use Rattle.code_core.specs.declared.instruction.Instruction.{Instruction}
use Rattle.code_of.specs.Coded.{words}
use Rattle.code_of.specs.CodeOf.{body_code, named_by, room_for, room}
use Rattle.code_bounds.specs.Registers.{RegistersAreCounted}
use Rattle.code_bounds.proofs.Tops.{one, room_for_max, room_max}
use Rattle.list_laws.proofs.Tests.{both_true}

all_below : (rs : List ℕ) (n m : ℕ) → room_for rs n ≤ m → list_all (λ r. nat_lt r m) rs ≡ true
all_below [] n m h = refl
all_below (r ∷ rs) n m h =
    let most = room_for_max rs (max n (r + 1)) in
    both_true (nat_lt r m) (list_all (λ r. nat_lt r m) rs) (lt-ltb r m (omega (arith, most, h))) (all_below rs (max n (r + 1)) m h)

place_below : (ws : List Instruction) (n m pc : ℕ) (w : Instruction) → slice_get ws pc ≡ Some w → room ws n ≤ m → one w ≤ m
place_below [] n m pc w h small = absurd (cc)
place_below (x ∷ ws) n m zero w h small =
    let same : x ≡ w = cc in
    let one_same = ap one same in
    let a = room_max ws (room_for (named_by x) n) in
    let b = room_for_max (named_by x) n in
    omega (arith, a, b, small, one_same)
place_below (x ∷ ws) n m (suc pc) w h small = place_below ws (room_for (named_by x) n) m pc w h small

pub counted : RegistersAreCounted
counted source (BodyOf params vararg inner ups line) pc w h =
    let ws = words (body_code (BodyOf params vararg inner ups line)) in
    all_below (named_by w) 0 (room ws (length params)) (place_below ws (length params) (room ws (length params)) pc w h (omega arith))
