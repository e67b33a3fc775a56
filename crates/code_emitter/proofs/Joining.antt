-- Code behind code.
use Rattle.std.proofs.Common.{arith, ℕ, suc, ◌+◌, ◌-◌, length, ◌≡◌, List, [], ◌∷◌, ◌++◌, sym, ap, ap₂, ◌∙◌, subst, append_assoc}
use Rattle.std.specs.Prelude.{slice_index_or, slice_set}
use Rattle.std.proofs.lemmas.List.{map-append, length-append, length-map}
use Rattle.std.proofs.Math.Seq.{set-append_seam, get_or-append_seam}
use Rattle.code_core.specs.declared.opcode.Opcode.TheVariants.{Jmp}
use Rattle.code_core.specs.declared.instruction.Instruction.{Instruction}
use Rattle.code_core.specs.Instruction.{op_ax}
use Rattle.code_core.specs.declared.proto.Const.{Const}
use Rattle.code_of.specs.Coded.{Coded, jump_over}
use Rattle.code_emitter.specs.declared.emitter.Step.{Step}
use Rattle.code_emitter.specs.Listing.{Listing, listed, followed, low, step, steps}

abbrev pub listing : List Const → List Step → ℕ → Listing
listing constants code made = record { constants = constants; steps = code; made = made }

joined : (s : Listing) (a b : List Coded) → (s.steps ++ steps a) ++ steps b ≡ s.steps ++ steps (a ++ b)
joined s a b = append_assoc s.steps (steps a) (steps b) ∙ ap (λ x. s.steps ++ x) (sym (map-append step a b))

pub none_made : (s : Listing) (a : List Coded) → followed s a 0 ≡ listed s a
none_made s a = ap (listing s.constants (s.steps ++ steps a)) (omega arith)

pub after : (s : Listing) (a : List Coded) (m : ℕ) (b : List Coded) (n : ℕ) → followed (followed s a m) b n ≡ followed s (a ++ b) (m + n)
after s a m b n = ap₂ (listing s.constants) (joined s a b) (omega arith)

pub listed_after : (s : Listing) (a : List Coded) (m : ℕ) (b : List Coded) → listed (followed s a m) b ≡ followed s (a ++ b) m
listed_after s a m b = ap (λ x. listing s.constants x (s.made + m)) (joined s a b)

pub after_listed : (s : Listing) (a : List Coded) (b : List Coded) (n : ℕ) → followed (listed s a) b n ≡ followed s (a ++ b) n
after_listed s a b n = ap (λ x. listing s.constants x (s.made + n)) (joined s a b)

pub both_listed : (s : Listing) (a b : List Coded) → listed (listed s a) b ≡ listed s (a ++ b)
both_listed s a b = ap (λ x. listing s.constants x s.made) (joined s a b)

-- the same for steps that are known by equations; what stands behind depends on what is there

pub then_made :
    (s r q : Listing) (a : List Coded) (m : ℕ) (b : List Const → ℕ → List Coded) (n : ℕ)
    → r ≡ followed s a m → q ≡ followed r (b r.constants r.made) n → q ≡ followed s (a ++ b s.constants (s.made + m)) (m + n)
then_made s r q a m b n p h = subst (λ x. q ≡ followed x (b x.constants x.made) n) p h ∙ after s a m (b s.constants (s.made + m)) n

pub then_listed :
    (s r q : Listing) (a : List Coded) (m : ℕ) (b : List Const → List Coded)
    → r ≡ followed s a m → q ≡ listed r (b r.constants) → q ≡ followed s (a ++ b s.constants) m
then_listed s r q a m b p h = subst (λ x. q ≡ listed x (b x.constants)) p h ∙ listed_after s a m (b s.constants)

pub listed_then :
    (s r q : Listing) (a : List Coded) (b : List Const → ℕ → List Coded) (n : ℕ)
    → r ≡ listed s a → q ≡ followed r (b r.constants r.made) n → q ≡ followed s (a ++ b s.constants s.made) n
listed_then s r q a b n p h = subst (λ x. q ≡ followed x (b x.constants x.made) n) p h ∙ after_listed s a (b s.constants s.made) n

pub listed_listed :
    (s r q : Listing) (a : List Coded) (b : List Const → List Coded)
    → r ≡ listed s a → q ≡ listed r (b r.constants) → q ≡ listed s (a ++ b s.constants)
listed_listed s r q a b p h = subst (λ x. q ≡ listed x (b x.constants)) p h ∙ both_listed s a (b s.constants)

-- a jump that was left open leads to the end of what stands behind it

abbrev with_line : Instruction → ℕ → Step
with_line instruction line = record { instruction = instruction; line = line }

pub landed :
    (k : List Const) (xs : List Step) (n place : ℕ) (word : Instruction) (l : ℕ) (d : Step) (before : Listing) (line : ℕ) (code : List Coded) (made : ℕ)
    → place ≡ length before.steps → listing k xs n ≡ followed (listed before (jump_over 0 line ∷ [])) code made
    → word ≡ low (op_ax Jmp (16777215 + (length xs - place - 1))) → d ≡ slice_index_or xs place d → l ≡ d.line
    → listing k (slice_set xs place (record { instruction = word; line = l })) n ≡ followed before (jump_over (length code) line ∷ code) made
landed k xs n place word l d before line code made p e w is l_is =
    let xs_is : xs ≡ before.steps ++ step (jump_over 0 line) ∷ steps code = ap (λ s. s.steps) e ∙ append_assoc before.steps (steps (jump_over 0 line ∷ [])) (steps code) in
    let size : length xs ≡ length before.steps + suc (length (steps code)) = ap length xs_is ∙ length-append before.steps (step (jump_over 0 line) ∷ steps code) in
    let same : length (steps code) ≡ length code = length-map code step in
    let places : length xs - place - 1 ≡ length code = omega (arith, size, same, p) in
    let line_is : l ≡ line =
    l_is ∙ ap (λ s. s.line) is ∙ ap₂ (λ ys i. (slice_index_or ys i d).line) xs_is p ∙ ap (λ s. s.line) (get_or-append_seam before.steps (step (jump_over 0 line)) (steps code) d) in
    let put : with_line word l ≡ step (jump_over (length code) line) = ap₂ with_line (w ∙ ap (λ q. low (op_ax Jmp (16777215 + q))) places) line_is in
    let set_is : slice_set xs place (with_line word l) ≡ before.steps ++ step (jump_over (length code) line) ∷ steps code =
    ap₂ (λ ys i. slice_set ys i (with_line word l)) xs_is p
    ∙ set-append_seam before.steps (step (jump_over 0 line)) (steps code) (with_line word l)
    ∙ ap (λ v. before.steps ++ v ∷ steps code) put in
    ap₂ (λ c m. listing c (slice_set xs place (with_line word l)) m) (ap (λ s. s.constants) e) (ap (λ s. s.made) e)
    ∙ ap (λ x. listing before.constants x (before.made + made)) set_is
