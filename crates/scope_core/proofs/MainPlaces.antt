-- The main function never gets more upvalues than `_ENV`, so a walk over a source sets the places of the finished tree.
use Rattle.std.proofs.Common.{rules, arith, ℕ, ◌+◌, ◌-◌, ◌≡◌, Bool, true, false, ◌||◌, List, [], ◌∷◌, ◌++◌, refl, sym, ap, ap₂, ◌∙◌, length, drop, take, if◌then◌else◌}
use Rattle.std.specs.List.{list_any}
use Rattle.std.specs.Str.{bytes_eq}
use Rattle.std.proofs.lemmas.Slice.Eq.{bytes_eq-Decides}
use Rattle.std.proofs.lemmas.List.{take_all}
use Rattle.tree_core.specs.declared.name.UpName.{UpName}
use Rattle.tree_core.specs.Tree.{Block, BodyOf}
use Rattle.scope_core.specs.Scopes.{Scope, Frame, bare, behind, is_local, needed, environment}
use Rattle.scope_core.specs.Parts.{Part, Naming, Located, block_parts}
use Rattle.scope_core.specs.Places.{up_name, outside_name, outside_all, placed, main_upvalues}
use Rattle.scope_core.specs.Walked.{own_upvalues, after_open, settled_block, main_frames}
use Rattle.scope_core.proofs.Growing.{Extends, Grown, append_nil}
use Rattle.scope_core.proofs.Levels.{add, add_all, Closed}
use Rattle.scope_core.proofs.Effects.{Effect}
use Rattle.scope_core.proofs.WalkEffects.{open_effect}
use Rattle.scope_core.proofs.Settling.{block_settled}

needs_environment : (text : List ℕ) (frames : List Frame) → list_any (is_local text) frames ≡ false → needed text frames ≡ environment
needs_environment text frames none = by (bytes_eq text environment) refl
  where
    by : (b : Bool) → bytes_eq text environment ≡ b → needed text frames ≡ environment
    by true e = ap (λ b. if (b || list_any (is_local text) frames) then text else environment) e ∙ (bytes_eq-Decides text environment).0 e
    by false e = ap₂ (λ a b. if (a || b) then text else environment) e none

-- a name that no local variable has
adds_nothing : (up : List ℕ → UpName) (text : List ℕ) (frames : List Frame) (local : Bool) → list_any (is_local (needed text frames)) frames ≡ local → add_all up main_upvalues (if local then [] else needed text frames ∷ []) ≡ main_upvalues
adds_nothing up text frames true e = refl
adds_nothing up text frames false e = by (list_any (is_local text) frames) refl
  where
    by : (b : Bool) → list_any (is_local text) frames ≡ b → add_all up main_upvalues (needed text frames ∷ []) ≡ main_upvalues
    by false none = ap (λ t. add_all up main_upvalues (t ∷ [])) (needs_environment text frames none)
    by true some' =
        let own : needed text frames ≡ text = ap (λ b. if (bytes_eq text environment || b) then text else environment) some' ∙ own_by (bytes_eq text environment) in
        let bad : true ≡ false = sym some' ∙ ap (λ t. list_any (is_local t) frames) (sym own) ∙ e in
        absurd (search rules)
      where
        own_by : (b : Bool) → (if (b || true) then text else environment) ≡ text
        own_by true = refl
        own_by false = refl

added_twice : (up : List ℕ → UpName) (ts rs : List (List ℕ)) → add_all up main_upvalues ts ≡ main_upvalues → add_all up main_upvalues rs ≡ main_upvalues → add_all up main_upvalues (ts ++ rs) ≡ main_upvalues
added_twice up ts rs p q = go main_upvalues ts ∙ ap (λ us. add_all up us rs) p ∙ q
  where
    go : (us : List UpName) (ts : List (List ℕ)) → add_all up us (ts ++ rs) ≡ add_all up (add_all up us ts) rs
    go us [] = refl
    go us (t ∷ ts) = go (add up us t) ts

part_adds : (up : List ℕ → UpName) (s : Scope) (part : Part) → add_all up main_upvalues (outside_name 0 s part) ≡ main_upvalues
part_adds up s (Naming name) =
    let all : take (length s.frames - 0) s.frames ≡ s.frames = take_all (length s.frames - 0) s.frames (omega arith) in
    ap (λ fs. add_all up main_upvalues (if list_any (is_local (needed name.text s.frames)) fs then [] else needed name.text s.frames ∷ [])) all
    ∙ adds_nothing up name.text s.frames (list_any (is_local (needed name.text s.frames)) s.frames) refl
part_adds up s _ = refl

parts_add : (up : List ℕ → UpName) (ps : List Located) → add_all up main_upvalues (outside_all 0 ps) ≡ main_upvalues
parts_add up [] = refl
parts_add up (p ∷ ps) = added_twice up (outside_name 0 p.around p.part) (outside_all 0 ps) (part_adds up p.around p.part) (parts_add up ps)

closed_main : Closed main_frames
closed_main = ((λ text h. refl), tt)

grown_main : (ends : List Frame) → Grown main_frames ends → own_upvalues ends ≡ main_upvalues → Grown ends main_frames
grown_main [] p u = absurd p
grown_main (e ∷ []) p u = (refl, ([], sym u ∙ append_nil e.upvalues), tt)
grown_main (e ∷ f ∷ fs) p u = absurd p.2

alone : (ends : List Frame) → Grown main_frames ends → Extends (drop 1 ends) []
alone [] p = absurd p
alone (e ∷ []) p = tt
alone (e ∷ f ∷ fs) p = absurd p.2

pub main_settled : (block : Block) → BodyOf [] true (settled_block main_frames block) main_upvalues 0 ≡ placed block
main_settled block =
    let s : Scope = record { frames = bare main_frames; blocks = []; in_loop = false; is_vararg = true } in
    let ends : List Frame = after_open main_frames block in
    let parts : List Located = block_parts s true block in
    let p : Effect main_frames ends (behind (bare main_frames) block) parts = open_effect block main_frames s true refl closed_main in
    let ups : own_upvalues ends ≡ main_upvalues = p.level 0 0 refl [] (alone ends p.grown) ∙ parts_add (up_name []) parts in
    ap (λ b. BodyOf [] true b main_upvalues 0) (block_settled block main_frames main_frames closed_main (grown_main ends p.grown ups) refl)
