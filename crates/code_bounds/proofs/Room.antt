-- Code that names at most 250 registers, and what follows where a function has those that it names.
use Rattle.std.proofs.Common.{◌≡◌, ℕ, ◌≤◌, List, [], ◌∷◌, ◌++◌, arith}
use Rattle.code_of.specs.Coded.{Coded}
use Rattle.code_bounds.proofs.Tops.{top, one, top_more, top_append}

pub record HasRoom (stack : ℕ) (code : List Coded) (P : Type 0) : Type 0 where
  pub below : top code ≤ 250
  pub gives : top code ≤ stack → P

module _ {stack : ℕ} where
  pub room_end : HasRoom stack [] (Unit {0})
  room_end = record { below = omega arith; gives = λ h. tt }

  pub room_as : {P Q : Type 0} {code : List Coded} → HasRoom stack code P → (P → Q) → HasRoom stack code Q
  room_as h f = record { below = h.below; gives = λ k. f (h.gives k) }

  pub room_append : {P Q : Type 0} (a b : List Coded) → HasRoom stack a P → HasRoom stack b Q → HasRoom stack (a ++ b) (P × Q)
  room_append a b h k =
      let e = top_append a b in
      let below_a = h.below in
      let below_b = k.below in
      record {
        below = omega (arith, e, below_a, below_b);
        gives = λ small. (h.gives (omega (arith, e, small)), k.gives (omega (arith, e, small)));
      }

  -- an instruction, and what it says itself
  pub room_more : {Q : Type 0} (x : Coded) (n : ℕ) (rest : List Coded) → one x.0 ≡ n → n ≤ 250 → HasRoom stack rest Q → HasRoom stack (x ∷ rest) ((n ≤ stack) × Q)
  room_more x n rest is few k =
      let e = top_more x rest in
      let below = k.below in
      record {
        below = omega (arith, e, is, few, below);
        gives = λ small. (omega (arith, e, is, small), k.gives (omega (arith, e, small)));
      }

  -- code of which nothing is needed
  pub room_of_top : (code : List Coded) → top code ≤ 250 → HasRoom stack code (top code ≤ stack)
  room_of_top code h = record { below = h; gives = λ k. k }
