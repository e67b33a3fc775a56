-- Which faults no reading gives, and counts of faults that are as before.
use Rattle.std.proofs.Common.{◌≡◌, ◌∙◌, ℕ, ap, arith, Bool, true, false, refl, sym, subst}
use Rattle.std.specs.Prelude.{Result, Err, IsErrOf}
use Rattle.io_edge.specs.Causes.{HasCause}
use Rattle.io_edge.specs.Lines.{is_line_failed}
use Rattle.io_edge.specs.declared.lines.LineFault.{LineFault}
use Rattle.io_edge.specs.declared.lines.LineFault.TheVariants.{Failed, Limit as LineLimit, Memory as LineMemory}
use Rattle.lua_feed.specs.declared.fault.FeedFault.{FeedFault}
use Rattle.lua_feed.specs.declared.fault.FeedFault.TheVariants.{Input, Output, Limit, Memory}
use Rattle.lua_feed.specs.Faults.{fault_of_line, is_input_fault, is_output_fault, of_output}

-- a call that does not use the device
pub untouched : (before now : ℕ) (failed : Bool) → now ≡ before → failed ≡ false → HasCause before now failed
untouched before now true e f = absurd (cc)
untouched before now false e f = record { later = omega (arith, e); once = omega (arith, e); bounded = λ h. omega (arith, e, h); rose = tt; only = e }

-- a fault of the output is none of the input
pub no_input : (e : FeedFault) {T : Type 0} (r : Result T FeedFault) → r ≡ Err e → of_output e ≡ true → is_input_fault r ≡ false
no_input Input r is h = absurd (cc)
no_input Output r is h = ap is_input_fault is
no_input Limit r is h = absurd (cc)
no_input Memory r is h = ap is_input_fault is

-- nor is it a limit
pub no_limit : (e : FeedFault) {T : Type 0} (r : Result T FeedFault) → r ≡ Err e → of_output e ≡ true → IsErrOf r Limit → ⊥
no_limit e r is h k = absurd (cc)

-- nor does it tell that reading failed
pub not_failed : (e : FeedFault) {T : Type 0} (r : Result T FeedFault) → r ≡ Err e → of_output e ≡ true → IsErrOf r Input → ⊥
not_failed e r is h k = absurd (cc)

-- a fault of a line is none of the output
pub line_input : (e : LineFault) {T B : Type 0} (l : Result T LineFault) (r : Result B FeedFault) → l ≡ Err e → r ≡ Err (fault_of_line e) → is_line_failed l ≡ is_input_fault r
line_input Failed l r a b = ap is_line_failed a ∙ sym (ap is_input_fault b)
line_input LineLimit l r a b = ap is_line_failed a ∙ sym (ap is_input_fault b)
line_input LineMemory l r a b = ap is_line_failed a ∙ sym (ap is_input_fault b)

pub line_no_output : (e : LineFault) {B : Type 0} (r : Result B FeedFault) → r ≡ Err (fault_of_line e) → is_output_fault r ≡ false
line_no_output Failed r b = ap is_output_fault b
line_no_output LineLimit r b = ap is_output_fault b
line_no_output LineMemory r b = ap is_output_fault b

pub line_limit : (e : LineFault) {B : Type 0} (r : Result B FeedFault) → r ≡ Err (fault_of_line e) → IsErrOf r Limit → e ≡ LineLimit
line_limit Failed r b k = absurd (cc)
line_limit LineLimit r b k = refl
line_limit LineMemory r b k = absurd (cc)

-- a fault that is handed on is the same
pub same_input : (e : FeedFault) {T B : Type 0} (r : Result T FeedFault) (s : Result B FeedFault) → r ≡ Err e → s ≡ Err e → is_input_fault r ≡ is_input_fault s
same_input Input r s a b = ap is_input_fault a ∙ sym (ap is_input_fault b)
same_input Output r s a b = ap is_input_fault a ∙ sym (ap is_input_fault b)
same_input Limit r s a b = ap is_input_fault a ∙ sym (ap is_input_fault b)
same_input Memory r s a b = ap is_input_fault a ∙ sym (ap is_input_fault b)

pub same_output : (e : FeedFault) {T B : Type 0} (r : Result T FeedFault) (s : Result B FeedFault) → r ≡ Err e → s ≡ Err e → is_output_fault r ≡ is_output_fault s
same_output Input r s a b = ap is_output_fault a ∙ sym (ap is_output_fault b)
same_output Output r s a b = ap is_output_fault a ∙ sym (ap is_output_fault b)
same_output Limit r s a b = ap is_output_fault a ∙ sym (ap is_output_fault b)
same_output Memory r s a b = ap is_output_fault a ∙ sym (ap is_output_fault b)

-- and so are the counts of its device
pub input_handed : (before now : ℕ) (e : FeedFault) {T B : Type 0} (r : Result T FeedFault) (s : Result B FeedFault) → HasCause before now (is_input_fault r) → r ≡ Err e → s ≡ Err e → HasCause before now (is_input_fault s)
input_handed before now e r s h a b = subst (HasCause before now) (same_input e r s a b) h

pub output_handed : (before now : ℕ) (e : FeedFault) {T B : Type 0} (r : Result T FeedFault) (s : Result B FeedFault) → HasCause before now (is_output_fault r) → r ≡ Err e → s ≡ Err e → HasCause before now (is_output_fault s)
output_handed before now e r s h a b = subst (HasCause before now) (same_output e r s a b) h

pub same_fault : (given e : FeedFault) {T B : Type 0} (r : Result T FeedFault) (s : Result B FeedFault) → r ≡ Err e → s ≡ Err e → IsErrOf s given → IsErrOf r given
same_fault given e r s a b k = let is : s ≡ Err given = k in cc

-- the count since an earlier moment, between which and the call nothing failed
pub cause_since : (first before now : ℕ) (failed told : Bool) → before ≡ first → failed ≡ told → HasCause before now failed → HasCause first now told
cause_since first before now failed told e f h = subst (HasCause first now) f (subst (λ n. HasCause n now failed) e h)

-- a call that does not fail leaves the count
pub unfailed : (before now : ℕ) (failed : Bool) → failed ≡ false → HasCause before now failed → now ≡ before
unfailed before now true e h = absurd (cc)
unfailed before now false e h = h.only
