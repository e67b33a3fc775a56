-- A walk over prototypes beside each other, to the function of a number.
use Rattle.std.proofs.Common.{◌≡◌, ℕ, zero, suc, ◌+◌, ◌<◌, List, [], ◌∷◌, ◌++◌, length, drop, Some, None, ap, sym, ◌∙◌, arith}
use Rattle.std.specs.Prelude.{slice_get}
use Rattle.code_core.specs.Prototype.{Prototype, prototypes, function_count}
use Rattle.code_core.proofs.PrototypeLemmas.{drop-there}
use Rattle.list_laws.proofs.Items.{get_old}
use Rattle.machine_sound.proofs.Lists.{get_there}
use Rattle.lua_heap.specs.Codes.{preorder}
use Rattle.lua_heap.proofs.Numbered.{length_preorder, get_behind}

pub into_next : (ps : List Prototype) (i : ℕ) (p : Prototype) → slice_get ps i ≡ Some p
    → preorder (prototypes (drop i ps)) ≡ (p ∷ preorder p.inner) ++ preorder (prototypes (drop (i + 1) ps))
into_next ps i p e = ap (λ (qs : List Prototype). preorder (prototypes qs)) (drop-there ps i p e)

pub found_in : (ps : List Prototype) (i : ℕ) (p : Prototype) (left : ℕ) (found : Prototype) → slice_get ps i ≡ Some p → slice_get (p ∷ preorder p.inner) left ≡ Some found
    → slice_get (preorder (prototypes (drop i ps))) left ≡ Some found
found_in ps i p left found e f =
    ap (λ qs. slice_get qs left) (into_next ps i p e) ∙ get_old (p ∷ preorder p.inner) (preorder (prototypes (drop (i + 1) ps))) left found f

pub passed : (ps : List Prototype) (i : ℕ) (p : Prototype) (left rest : ℕ) → slice_get ps i ≡ Some p → left ≡ function_count p + rest
    → slice_get (preorder (prototypes (drop (i + 1) ps))) rest ≡ slice_get (preorder (prototypes (drop i ps))) left
passed ps i p left rest e f =
    let l = length_preorder p.inner in
    let n : length (p ∷ preorder p.inner) + rest ≡ left = omega (arith, l, f) in
    sym (get_behind (p ∷ preorder p.inner) (preorder (prototypes (drop (i + 1) ps))) rest)
    ∙ ap (λ qs. slice_get qs (length (p ∷ preorder p.inner) + rest)) (sym (into_next ps i p e))
    ∙ ap (slice_get (preorder (prototypes (drop i ps)))) n

-- where a function is still to come, the walk is not at its end
pub walk_within : (ps : List Prototype) (k left : ℕ) (qs : List Prototype) (n : ℕ) → n < length qs → slice_get (preorder (prototypes (drop k ps))) left ≡ slice_get qs n → k < length ps
walk_within [] zero left qs n h e = let q = get_there qs n h in let f : None ≡ Some q.0 = e ∙ q.1 in absurd (cc)
walk_within [] (suc k) left qs n h e = let q = get_there qs n h in let f : None ≡ Some q.0 = e ∙ q.1 in absurd (cc)
walk_within (p ∷ ps) zero left qs n h e = omega arith
walk_within (p ∷ ps) (suc k) left qs n h e = let l = walk_within ps k left qs n h e in omega (arith, l)
