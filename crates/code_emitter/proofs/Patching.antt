-- Code that is taken back.
use Rattle.std.proofs.Common.{ℕ, ◌+◌, length, ◌≡◌, List, [], sym, ap, ap₂, ◌∙◌, take}
use Rattle.std.proofs.lemmas.List.{append-nil}
use Rattle.std.proofs.Math.Seq.{take-append_seam}
use Rattle.code_core.specs.declared.proto.Const.{Const}
use Rattle.code_of.specs.Coded.{Coded}
use Rattle.code_emitter.specs.declared.emitter.Step.{Step}
use Rattle.code_emitter.specs.Listing.{Listing, followed, steps}
use Rattle.code_emitter.proofs.Joining.{listing}

pub taken_back :
    (k : List Const) (xs : List Step) (n place : ℕ) (before : Listing) (code : List Coded) (made : ℕ)
    → place ≡ length before.steps → listing k xs n ≡ followed before code made → listing k (take place xs) n ≡ followed before [] made
taken_back k xs n place before code made p e =
    let taken : take place xs ≡ before.steps = ap₂ take p (ap (λ s. s.steps) e) ∙ take-append_seam before.steps (steps code) in
    ap₂ (λ c m. listing c (take place xs) m) (ap (λ s. s.constants) e) (ap (λ s. s.made) e)
    ∙ ap (λ x. listing before.constants x (before.made + made)) (taken ∙ sym (append-nil before.steps))
