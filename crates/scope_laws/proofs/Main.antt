-- A source that keeps the static rules: its tree's names, labels and jumps are in scope.
use Rattle.std.proofs.Common.{rules, arith, ℕ, ◌-◌, ◌≡◌, Bool, true, false, ◌||◌, List, [], ◌∷◌, ◌++◌, refl, sym, ap, ap₂, ◌∙◌, subst, length, take, if◌then◌else◌}
use Rattle.std.specs.List.{list_any}
use Rattle.std.specs.Str.{bytes_eq}
use Rattle.std.proofs.lemmas.Slice.Eq.{bytes_eq-Decides}
use Rattle.std.proofs.lemmas.List.{take_all}
use Rattle.tree_core.specs.Tree.{Block}
use Rattle.scope_core.specs.Scopes.{Scope, Frame, bare, is_local, needed, environment}
use Rattle.scope_core.specs.Parts.{Part, Naming, Located, body_parts, block_parts}
use Rattle.scope_core.specs.Places.{outside_name, outside_all, placed, main_upvalues}
use Rattle.scope_core.specs.Rules.{begin, violations}
use Rattle.scope_core.specs.Walked.{main_frames}
use Rattle.scope_laws.specs.Keeping.{BodyKeeps}
use Rattle.scope_laws.specs.Law.{BodyNamesFit}
use Rattle.scope_laws.proofs.Parts.{kept_all}
use Rattle.scope_laws.proofs.Rules.{body_keeps}
use Rattle.scope_laws.proofs.Named.{HasAll}
use Rattle.scope_laws.proofs.Views.{View}
use Rattle.scope_laws.proofs.Names.{block_found}

-- a name whose variable no function declares is global
needs_environment : (text : List ℕ) (frames : List Frame) → list_any (is_local (needed text frames)) frames ≡ false → needed text frames ≡ environment
needs_environment text frames e = by (bytes_eq text environment) (list_any (is_local text) frames) refl refl
  where
    by : (a b : Bool) → bytes_eq text environment ≡ a → list_any (is_local text) frames ≡ b → needed text frames ≡ environment
    by true b f g = ap (λ x. if (x || list_any (is_local text) frames) then text else environment) f ∙ (bytes_eq-Decides text environment).0 f
    by false true f g =
        let own : needed text frames ≡ text = ap₂ (λ x y. if (x || y) then text else environment) f g in
        let bad : true ≡ false = sym g ∙ ap (λ x. list_any (is_local x) frames) (sym own) ∙ e in
        absurd (search rules)
    by false false f g = ap₂ (λ x y. if (x || y) then text else environment) f g

main_has : (text : List ℕ) → text ≡ environment → HasAll main_upvalues (text ∷ [])
main_has text e = subst (λ x. HasAll main_upvalues (x ∷ [])) (sym e) (refl, tt)

both_have : (ts rs : List (List ℕ)) → HasAll main_upvalues ts → HasAll main_upvalues rs → HasAll main_upvalues (ts ++ rs)
both_have [] rs p q = q
both_have (t ∷ ts) rs p q = (p.0, both_have ts rs p.1 q)

part_has : (s : Scope) (part : Part) → HasAll main_upvalues (outside_name 0 s part)
part_has s (Naming name) =
    let text : List ℕ = needed name.text s.frames in
    let all : take (length s.frames - 0) s.frames ≡ s.frames = take_all (length s.frames - 0) s.frames (omega arith) in
    subst (λ fs. HasAll main_upvalues (if list_any (is_local text) fs then [] else text ∷ [])) (sym all) (by (list_any (is_local text) s.frames) refl)
  where
    by : (b : Bool) → list_any (is_local (needed name.text s.frames)) s.frames ≡ b → HasAll main_upvalues (if b then [] else needed name.text s.frames ∷ [])
    by true e = tt
    by false e = main_has (needed name.text s.frames) (needs_environment name.text s.frames e)
part_has s _ = tt

parts_have : (ps : List Located) → HasAll main_upvalues (outside_all 0 ps)
parts_have [] = tt
parts_have (p ∷ ps) = both_have (outside_name 0 p.around p.part) (outside_all 0 ps) (part_has p.around p.part) (parts_have ps)

main_view : View main_frames (bare main_frames) 0 [] 0 main_upvalues
main_view = record { closed = ((λ text h. refl), tt); seen = refl; depth = refl; level = refl; most = omega arith; below = tt; shown = λ text n e. tt; own = refl }

pub names_fit : (source : Block) → violations source ≡ [] → BodyNamesFit (placed source)
names_fit source e =
    let kept : BodyKeeps (placed source) = body_keeps (placed source) begin (kept_all (body_parts begin (placed source)) e) in
    let s : Scope = record { frames = bare main_frames; blocks = []; in_loop = false; is_vararg = true } in
    (kept, block_found source 0 main_upvalues s true main_view (parts_have (block_parts s true source)) true true [] false kept.1.1)
