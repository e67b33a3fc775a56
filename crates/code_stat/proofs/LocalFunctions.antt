-- What is written for `local function`: whether its upvalues have its own register, and the code.
use Rattle.std.proofs.Common.{ℕ, ◌+◌, ◌≡◌, ◌<◌, Bool, true, false, ◌&&◌, ◌||◌, List, sym, ap, ◌∙◌, length, drop}
use Rattle.std.specs.Prelude.{slice_index_or, nat_eq}
use Rattle.tree_core.specs.declared.name.UpName.{UpName}
use Rattle.tree_core.specs.declared.tree.Body.{Body, out-Body}
use Rattle.tree_core.specs.Plain.{plain_body}
use Rattle.tree_core.proofs.Rows.{plain-body}
use Rattle.code_of.specs.Parts.{captures_local, closure_code, function_code}
use Rattle.code_emitter.specs.Listing.{Listing, followed}
use Rattle.code_stat.proofs.Going.{front}

pub captured_further :
    (r : ℕ) (us : List UpName) (i : ℕ) (u : UpName) (all : Bool) → i < length us → u ≡ slice_index_or us i u → (u.in_stack && nat_eq u.index r) ≡ false
    → captures_local r (drop i us) ≡ all → captures_local r (drop (i + 1) us) ≡ all
captured_further r us i u all inside is e known = sym (ap (captures_local r) (front us i u inside is) ∙ ap (λ b. b || captures_local r (drop (i + 1) us)) e) ∙ known

pub captured_here :
    (r : ℕ) (us : List UpName) (i : ℕ) (u : UpName) (all : Bool) → i < length us → u ≡ slice_index_or us i u → (u.in_stack && nat_eq u.index r) ≡ true
    → captures_local r (drop i us) ≡ all → true ≡ all
captured_here r us i u all inside is e known = sym (ap (captures_local r) (front us i u inside is) ∙ ap (λ b. b || captures_local r (drop (i + 1) us)) e) ∙ known

pub local_follows :
    (a b : Listing) (body : Body) (register : ℕ) (own : Bool) → captures_local register (out-Body body).upvalues.items ≡ own
    → b ≡ followed a (closure_code own register a.made (out-Body body).line) 1 → b ≡ followed a (function_code (plain_body body) register a.made) 1
local_follows a b body register own e h =
    h ∙ ap (λ o. followed a (closure_code o register a.made (out-Body body).line) 1) (sym e) ∙ ap (λ p. followed a (function_code p register a.made) 1) (sym (plain-body body))
