-- The code of a source is checked, so what is loaded is.
use Rattle.std.proofs.Common.{ℕ, ◌≡◌, ◌≤◌, ◌^◌, List, Some, length, refl, sym, ap, subst, ◌∙◌, arith, IsTrue}
use Rattle.std.specs.Prelude.{nat_le}
use Rattle.std.proofs.lemmas.Bool.Decides.{nat_tests}
use Rattle.int_core.specs.Value.{greatest_string}
use Rattle.tree_core.specs.Tree.{Body}
use Rattle.scope_core.specs.Places.{placed}
use Rattle.code_core.specs.Prototype.{Prototype, instruction_count}
use Rattle.code_core.proofs.CheckedLemmas.{checked_instructions}
use Rattle.code_of.specs.CodeOf.{code_of}
use Rattle.load_rows.specs.Loading.{Built, built, refused_at, Builds}
use Rattle.machine_sound.specs.Safe.{LoadedOk}
use Rattle.machine_sound.specs.Laws.{BuildsOk}
use Rattle.machine_ends.specs.Laws.{BuildsWithin}
use Rattle.source_laws.proofs.Checked.{source_checked}
use Rattle.source_builds.specs.Builds.{IsBuiltTo, BuildsSources, code_built, code_builds}

pub some_code : (p q : Prototype) → built p ≡ built q → p ≡ q
some_code p q e = cc

fits : (a b : ℕ) → a ≤ b → IsTrue (nat_le a b)
fits a b l = grind (arith, nat_tests)

module _ (builds : Builds Body) (are : BuildsSources builds) where
  pub code_ok : BuildsOk (code_builds builds)
  code_ok name source p short e = by (builds name source) (are name source) e
    where
      by : (b : Built Body) → ((body : Body) → b ≡ built body → IsBuiltTo source body) → code_built name b ≡ built p → LoadedOk p
      by (refused_at line rule) k e = absurd (cc)
      by (built body) k e =
          let is = k body refl in
          let same : code_of (Some name) (placed is.tree) ≡ p = ap (λ b. code_of (Some name) b) (sym is.placed_is) ∙ some_code (code_of (Some name) body) p e in
          subst LoadedOk same (record {
            checked = source_checked source is.tokens is.tree is.limited is.lexed is.derived is.lawful (Some name) (fits (length name) greatest_string short);
            one_upvalue = refl;
          })

  pub code_within : BuildsWithin (2 ^ 64) (code_builds builds)
  code_within name source p short e = let l = checked_instructions p (code_ok name source p short e).checked in omega (arith, l)
