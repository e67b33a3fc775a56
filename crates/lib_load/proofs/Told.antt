-- What `load` met, and what it came to.
use Rattle.std.proofs.Common.{◌≡◌, ℕ, List, [], ◌∷◌, None, Some, ap, sym, subst, true}
use Rattle.std.specs.Global.{Vec}
use Rattle.tree_core.specs.Tree.{Body}
use Rattle.scope_core.specs.Places.{placed}
use Rattle.code_core.specs.Prototype.{Prototype}
use Rattle.load_rows.specs.Loading.{Built, built, refused_at, fitted, after_building, why_refused}
use Rattle.source_builds.specs.Builds.{code_built}
use Rattle.source_builds.specs.Readings.{has_tree, is_refused, breaks_rule, IsReading}
use Rattle.compile_text.specs.Source.{IsRefused}
use Rattle.compile_text.specs.declared.fault.TextFault.TheVariants.{Source, Rule}
use Rattle.compile_chunk.specs.Chunk.{IsCodeOf}
use Rattle.lib_load.specs.declared.reading.Loaded.{Loaded as Kept}
use Rattle.lib_load.specs.declared.reading.Loaded.TheVariants.{NotLoaded, Loaded as KeptCode}
use Rattle.lib_load.specs.Loads.{IsToldBy, ComesTo}

-- one source was met
after_meeting : (name source : List ℕ) (reading : Built Body) (kept : Kept) → IsReading source reading → IsToldBy (after_building name (code_built name reading)) kept
    → ComesTo (λ builds. after_building name (builds name source)) kept
after_meeting name source reading kept r t = record {
  met = record { name = name; source = source; reading = reading; is = r } ∷ [];
  holds = λ builds are h. subst (λ b. IsToldBy (after_building name (code_built name b)) kept) (sym h.0) t;
}

pub code_met : (name source : List ℕ) (code : Prototype) → IsCodeOf name source true code → ComesTo (λ builds. after_building name (builds name source)) (KeptCode code)
code_met name source code is = after_meeting name source (built (placed is.tree)) (KeptCode code) (has_tree is.tree is.is_source) (sym is.code_is)

pub refusal_met : (name source : List ℕ) (line : ℕ) (why : Vec ℕ) → IsRefused source (Source line) → why.items ≡ why_refused name line None → ComesTo (λ builds. after_building name (builds name source)) (NotLoaded why)
refusal_met name source line why r e = after_meeting name source (refused_at line None) (NotLoaded why) (is_refused line r) (ap fitted (sym e))

pub violation_met : (name source : List ℕ) (rule line : ℕ) (why : Vec ℕ) → IsRefused source (Rule rule line) → why.items ≡ why_refused name line (Some rule)
    → ComesTo (λ builds. after_building name (builds name source)) (NotLoaded why)
violation_met name source rule line why r e = after_meeting name source (refused_at line (Some rule)) (NotLoaded why) (breaks_rule rule line r) (ap fitted (sym e))
