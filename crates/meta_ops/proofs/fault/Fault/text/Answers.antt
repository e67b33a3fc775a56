use Rattle.std.proofs.Common.{◌≡◌, ℕ, List, sym, subst}
use Rattle.std.specs.Prelude.{IfOk}
use Rattle.meta_ops.specs.Outcome.{fault_text}
use Rattle.meta_ops.proofs.fault.Fault.text.Goals as goal

pub returns-in-Index : goal.returns-in-Index
returns-in-Index c = subst (λ f. IfOk c.wrong_type.result (λ text. (texts : List (List ℕ)) → text.items ≡ fault_text texts f)) (sym c.in-Index.is) c.wrong_type.ensures

pub returns-in-Call : goal.returns-in-Call
returns-in-Call c = subst (λ f. IfOk c.wrong_type-in-Call.result (λ text. (texts : List (List ℕ)) → text.items ≡ fault_text texts f)) (sym c.in-Call.is) c.wrong_type-in-Call.ensures

pub returns-in-Arithmetic : goal.returns-in-Arithmetic
returns-in-Arithmetic c = subst (λ f. IfOk c.wrong_type-in-Arithmetic.result (λ text. (texts : List (List ℕ)) → text.items ≡ fault_text texts f)) (sym c.in-Arithmetic.is) c.wrong_type-in-Arithmetic.ensures

pub returns-in-Bitwise : goal.returns-in-Bitwise
returns-in-Bitwise c = subst (λ f. IfOk c.wrong_type-in-Bitwise.result (λ text. (texts : List (List ℕ)) → text.items ≡ fault_text texts f)) (sym c.in-Bitwise.is) c.wrong_type-in-Bitwise.ensures

pub returns-in-Concatenate : goal.returns-in-Concatenate
returns-in-Concatenate c = subst (λ f. IfOk c.wrong_type-in-Concatenate.result (λ text. (texts : List (List ℕ)) → text.items ≡ fault_text texts f)) (sym c.in-Concatenate.is) c.wrong_type-in-Concatenate.ensures

pub returns-in-Length : goal.returns-in-Length
returns-in-Length c = subst (λ f. IfOk c.wrong_type-in-Length.result (λ text. (texts : List (List ℕ)) → text.items ≡ fault_text texts f)) (sym c.in-Length.is) c.wrong_type-in-Length.ensures
