use Rattle.std.proofs.Common.{ℕ, zero, suc, List, [], ◌∷◌, sym, subst, arith}
use Rattle.list_laws.proofs.Items.{some_same}
use Rattle.machine_core.specs.World.{World}
use Rattle.machine_sound.specs.Sound.{Each, Solid, Valid, sizes}
use Rattle.lua_heap.specs.Opening.{opened_world}
use Rattle.lua_heap.specs.Reading.{value}
use Rattle.image_cases.proofs.images.image_of.Goals as goal

each_of_two : {A : Type 0} (P : A → Type 0) (a b : A) → P a → P b → Each P (a ∷ b ∷ [])
each_of_two P a b h k zero x g = subst P (some_same a x g) h
each_of_two P a b h k (suc zero) x g = subst P (some_same b x g) k
each_of_two P a b h k (suc (suc i)) x g = absurd (cc)

pub persist-requires : goal.persist-requires
persist-requires c =
    let plain_is = sym (c.in_ok-world.ensures.plain 0) in
    let texts_are = sym c.in_ok-world.ensures.strings in
    let first = subst (λ (texts : List (List ℕ)). Valid (sizes 100 (opened_world 0)) (value texts c.args.first)) texts_are c.requires.first in
    let second = subst (λ (texts : List (List ℕ)). Valid (sizes 100 (opened_world 0)) (value texts c.args.second)) texts_are c.requires.second in
    let there = each_of_two (Valid (sizes 100 (opened_world 0))) (value c.in_ok-world.world.strings c.args.first) (value c.in_ok-world.world.strings c.args.second) first second in
    record {
      primitives = 100;
      solid = subst (λ (W : World). Solid 100 W) plain_is (c.new_worlds_are_sound.ensures 100 0).solid;
      order = record { codes = c.in_ok-world.ensures.codes; listed = c.in_ok-world.ensures.listed };
      roots_there = subst (λ (W : World). Each (Valid (sizes 100 W)) (value c.in_ok-world.world.strings c.args.first ∷ value c.in_ok-world.world.strings c.args.second ∷ [])) plain_is there;
      few = omega arith;
    }
