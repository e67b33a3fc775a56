-- A function's reading, by its parts.
use Rattle.std.proofs.Common.{◌≡◌, ℕ, zero, suc, ◌-◌, ◌<◌, List, [], ◌∷◌, ◌++◌, Option, refl, sym, ap, append_assoc, arith}
use Rattle.code_core.specs.Prototype.{Prototype}
use Rattle.chunk_format.specs.Reading.{Got, read, refused, and_then, read_body, read_functions, read_function}

pub read_function_body : (levels : ℕ) (parent : Option (List ℕ)) (left : ℕ) (bytes : List ℕ) → 0 < levels → 0 < left →
    read_function levels parent left bytes ≡ read_body (read_function (levels - 1)) parent (left - 1) bytes
unfolding read_function
read_function_body zero parent left bytes h k = absurd (omega arith)
read_function_body (suc levels) parent zero bytes h k = absurd (omega arith)
read_function_body (suc levels) parent (suc left) bytes h k =
    let less : suc levels - 1 ≡ levels = omega arith in
    let fewer : suc left - 1 ≡ left = omega arith in
    rw (less, fewer) refl

pub no_levels : (parent : Option (List ℕ)) (left : ℕ) (bytes : List ℕ) → read_function 0 parent left bytes ≡ refused 7
unfolding read_function
no_levels parent left bytes = refl

pub none_left : (levels : ℕ) (parent : Option (List ℕ)) (bytes : List ℕ) → read_function levels parent 0 bytes ≡ refused 7
unfolding read_function
none_left zero parent bytes = refl
none_left (suc levels) parent bytes = refl

-- some functions of which the front was read
abbrev pub behind_functions : List Prototype → Got (List Prototype × ℕ) → Got (List Prototype × ℕ)
behind_functions front got = and_then got (λ others rest. read (front ++ others.0, others.1) rest)

pub behind_none : (got : Got (List Prototype × ℕ)) → behind_functions [] got ≡ got
behind_none (read others rest) = refl
behind_none (refused kind) = refl

behind_one-more : (front : List Prototype) (p : Prototype) (got : Got (List Prototype × ℕ)) →
    behind_functions front (and_then got (λ others rest. read (p ∷ others.0, others.1) rest)) ≡ behind_functions (front ++ p ∷ []) got
behind_one-more front p (read others rest) = ap (λ ps. read (ps, others.1) rest) (sym (append_assoc front (p ∷ []) others.0))
behind_one-more front p (refused kind) = refl

pub functions-step : (function : ℕ → List ℕ → Got (Prototype × ℕ)) (n : ℕ) (front : List Prototype) (p : Prototype) (before left : ℕ) (bytes behind : List ℕ) →
    0 < n → function before bytes ≡ read (p, left) behind →
    behind_functions front (read_functions function n before bytes) ≡ behind_functions (front ++ p ∷ []) (read_functions function (n - 1) left behind)
functions-step function zero front p before left bytes behind h e = absurd (omega arith)
functions-step function (suc n) front p before left bytes behind h e =
    let less : suc n - 1 ≡ n = omega arith in
    rw (e, less) (behind_one-more front p (read_functions function n left behind))
