-- The functions that are written.
use Rattle.std.proofs.Common.{◌≡◌, ℕ, suc, ◌++◌, ◌∙◌, Bool, List, [], ◌∷◌, Option, None, Result, Ok, Err, OnOk, refl, ap, arith, length, append_assoc, ◌<◌, true}
use Rattle.std.specs.Prelude.{if◌then◌else◌, nat_le}
use Rattle.std.proofs.lemmas.Bool.Decides.{nat_tests}
use Rattle.code_core.proofs.CheckedLemmas.{rest_of, first_of_two}
use Rattle.code_core.specs.Writable.{Writable, parts_fit, lists_fit, list_fits, number_fits, name_fits, byte_fits}
use Rattle.code_core.specs.Prototype.{Prototype, prototypes, list_of}
use Rattle.chunk_format.specs.Spelling.{all_kept, kept, kept_parts, number, head, lists, details, inner, functions, function}

pub length_kept : (strip : Bool) (ps : List Prototype) → length (list_of (all_kept strip (prototypes ps))) ≡ length ps
length_kept strip [] = refl
length_kept strip (p ∷ ps) = ap suc (length_kept strip ps)

-- one more append behind those that were made
pub OnOk-appended : {T E : Type 0} (r : Result T E) (after before_last all : List ℕ) → OnOk r (after ≡ before_last) → before_last ≡ all → OnOk r (after ≡ all)
OnOk-appended (Ok x) after before_last all h e = h ∙ e
OnOk-appended (Err x) after before_last all h e = tt

pub inner-kept : (strip : Bool) (p : Prototype) (ps : List Prototype) (n : ℕ) (source : Option (List ℕ)) (before counted : List ℕ) →
    counted ≡ before ++ number n → n ≡ length ps → p.inner ≡ prototypes ps → source ≡ (if strip then None else p.own.source) →
    counted ++ functions source (all_kept strip (prototypes ps)) ≡ before ++ inner (kept strip p)
inner-kept strip p ps n source before counted h len within e =
    rw (h, len, within, e, length_kept strip ps) (append_assoc before (number (length ps)) _)

pub function-kept : (parent : Option (List ℕ)) (strip : Bool) (p : Prototype) (before headed listed behind : List ℕ) →
    headed ≡ before ++ head parent (kept_parts strip p.own) → listed ≡ headed ++ lists p.own → behind ≡ listed ++ inner (kept strip p) →
    behind ++ details (kept_parts strip p.own) ≡ before ++ function parent (kept strip p)
function-kept parent strip p before headed listed behind a b c =
    rw (c, b, a) (append4 before (head parent (kept_parts strip p.own)) (lists p.own) (inner (kept strip p)) (details (kept_parts strip p.own)))
  where
    append4 : (a b c d e : List ℕ) → (((a ++ b) ++ c) ++ d) ++ e ≡ a ++ (b ++ (c ++ (d ++ e)))
    append4 a b c d e = simp append_assoc

pub append_five : (s a b c d e : List ℕ) → ((((s ++ a) ++ b) ++ c) ++ d) ++ e ≡ s ++ (a ++ (b ++ (c ++ (d ++ e))))
append_five s a b c d e = simp append_assoc

pub upvalues_few : (p : Prototype) → Writable p → length p.own.upvalues < 256
upvalues_few p h =
    let own = first_of_two (parts_fit p.own) _ h in
    let numbers = rest_of (number_fits p.own.last_line) (rest_of (number_fits p.own.line_defined) (rest_of (name_fits p.own.source) own)) in
    let all_lists = first_of_two (lists_fit p.own) _ (rest_of (byte_fits p.own.stack) (rest_of (byte_fits p.own.params) numbers)) in
    let few : nat_le (length p.own.upvalues) 255 ≡ true =
    first_of_two (nat_le (length p.own.upvalues) 255) _ (rest_of (list_fits p.own.constants) (rest_of (list_fits p.own.code) all_lists)) in
    grind (arith, nat_tests)
