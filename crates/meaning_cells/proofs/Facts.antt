-- Facts on numbers of locals, points of blocks and labels.
use Rattle.std.proofs.Common.{ℕ, zero, suc, ◌+◌, ◌<◌, ◌≤◌, ◌≡◌, ⊎_elim, Bool, true, false, cond, List, [], ◌∷◌, ◌++◌, length, Option, Some, None, refl, arith, length-append}
use Rattle.std.proofs.lemmas.List.{length-take}
use Rattle.std.specs.Prelude.{ℤ, take, bytes_eq}
use Rattle.int_core.specs.Value.{Value, known, integer, nth, shape, write}
use Rattle.tree_core.specs.declared.name.Declared.{Declared}
use Rattle.tree_core.specs.Tree.{Block, Falls, Returns, Stats, EndStats, MoreStats, Local, LocalFunction, Label, Exp}
use Rattle.tree_activation.specs.Work.{Passed, Point, Control, mark}
use Rattle.tree_activation.specs.Asking.{numbers}
use Rattle.tree_activation.specs.Expressions.{integer_in}
use Rattle.tree_activation.specs.Jumps.{Landing, passed_by, is_at_end, ahead, behind}
use Rattle.tree_activation.specs.Statements.{point_of, repeat_point, is_closed, marks_closed, hidden}
use Rattle.list_laws.proofs.Values.{length_write}
use Rattle.meaning_cells.specs.Alike.{Member}
use Rattle.meaning_cells.proofs.Relation.{Under, Low, Labels, IsPoint, Req}

pub under_none : (b : Option ℕ) → b ≡ None → (level : ℕ) → Under b level
under_none None e level = tt
under_none (Some m) e level = absurd (cc)

pub low_none : (b : Option ℕ) → b ≡ None → (hd : List (ℕ × ℕ)) → Low b hd
low_none None e hd = tt
low_none (Some m) e hd = absurd (cc)

pub point_ok : (block : Block) (level : ℕ) (b : Option ℕ) (f : ℕ) → Under b level → f ≤ level → IsPoint b f (point_of block level)
point_ok (Falls ss tokens line) level b f u l = (u, l, tt, tt)
point_ok (Returns ss es tokens line) level b f u l = (u, l, tt, tt)

pub repeat_ok : (block : Block) (test : Exp) (level f : ℕ) → f ≤ level → IsPoint None f (repeat_point block test level)
repeat_ok (Falls ss tokens line) test level f l = (tt, l, tt, refl)
repeat_ok (Returns ss es tokens line) test level f l = (tt, l, tt, tt)

pub numbers_in : (from count x : ℕ) → Member x (numbers from count) → x < from + count
numbers_in from zero x m = absurd m
numbers_in from (suc n) x m = ⊎_elim (λ e. omega (arith, e)) (λ k. let l = numbers_in (suc from) n x k in omega (arith, l)) m

pub marks_req : (m : ℕ) (names : List Declared) (next : Control) (b : Option ℕ) (f : ℕ) (hd hc : List (ℕ × ℕ)) → Req next b f hd hc → Req (marks_closed m names next) b f hd hc
marks_req m [] next b f hd hc r = r
marks_req m (d ∷ names) next b f hd hc r = by (is_closed d.attrib) (marks_req (suc m) names next b f hd hc r) where
  by : (t : Bool) → Req (marks_closed (suc m) names next) b f hd hc → Req (cond t (mark d.name.line d.name.text m (marks_closed (suc m) names next)) (marks_closed (suc m) names next)) b f hd hc
  by true k = k
  by false k = k

pub round_size : (level : ℕ) (from rounds by_step : ℤ) (ls : List Value) → level ≤ length ls
    → length (take level ls ++ hidden from rounds by_step ++ known (integer from) ∷ []) ≡ level + 4
round_size level from rounds by_step ls size =
    let a = length-append (take level ls ++ hidden from rounds by_step) (known (integer from) ∷ []) in
    let b = length-append (take level ls) (hidden from rounds by_step) in
    let c = length-take level ls in
    omega (arith, a, b, c, size)

pub enter_size : (level : ℕ) (v : Value) (ls more : List Value) → level + 4 ≤ length ls → length (write (level + 2) v (take (level + 4) ls) ++ more) ≡ level + 4 + length more
enter_size level v ls more size =
    let c = length-take (level + 4) ls in
    let l : level + 2 < length (take (level + 4) ls) = omega (arith, c, size) in
    let b = length_write (level + 2) v (take (level + 4) ls) l in
    let a = length-append (write (level + 2) v (take (level + 4) ls)) more in
    omega (arith, a, b, c, size)

pub integer_in_scope : (ls : List Value) (n : ℕ) (z : ℤ) → integer_in (shape (nth ls n)) ≡ Some z → n < length ls
integer_in_scope [] zero z e = absurd (cc)
integer_in_scope [] (suc n) z e = absurd (cc)
integer_in_scope (x ∷ ls) zero z e = omega arith
integer_in_scope (x ∷ ls) (suc n) z e = let l = integer_in_scope ls n z e in omega (arith, l)

-- where a jump leads

abbrev pub IsLanding : Option ℕ → ℕ → Option Landing → Type 0
IsLanding b f None = Unit {0}
IsLanding b f (Some there) = (f ≤ there.level) × IsPoint b f there.point

either_level : (t : Bool) (f m n : ℕ) → f ≤ m → f ≤ n → f ≤ cond t m n
either_level true f m n a b = a
either_level false f m n a b = b

pub ahead_ok : (b : Option ℕ) (f : ℕ) (name : List ℕ) (level : ℕ) (ss : Stats) (p : Point) (labels : List Passed) → f ≤ level → IsPoint b f p → Labels f labels → IsLanding b f (ahead name level ss p labels)
ahead_ok b f name level EndStats p labels l i k = tt
ahead_ok b f name level (MoreStats (Label line found) ss) p labels l i k = by (bytes_eq found.text name) (ahead_ok b f name level ss p (passed_by found level ss ∷ labels) l i (l, k)) where
  by : (t : Bool) → IsLanding b f (ahead name level ss p (passed_by found level ss ∷ labels))
      → IsLanding b f (cond t (Some (record { level = cond (is_at_end p.ending ss) p.level level; point = record p { rest = ss; labels = passed_by found level ss ∷ labels } })) (ahead name level ss p (passed_by found level ss ∷ labels)))
  by true m = (either_level (is_at_end p.ending ss) f p.level level i.1 l, (i.0, i.1, (l, k), i.3))
  by false m = m
ahead_ok b f name level (MoreStats (Local line names es) ss) p labels l i k = ahead_ok b f name (level + length names) ss p labels (omega (arith, l)) i k
ahead_ok b f name level (MoreStats (LocalFunction line found body) ss) p labels l i k = ahead_ok b f name (level + 1) ss p labels (omega (arith, l)) i k
ahead_ok b f name level (MoreStats s ss) p labels l i k = ahead_ok b f name level ss p labels l i k

pub behind_ok : (b : Option ℕ) (f : ℕ) (name : List ℕ) (p : Point) (labels : List Passed) → IsPoint b f p → Labels f labels → IsLanding b f (behind name p labels)
behind_ok b f name p [] i k = tt
behind_ok b f name p (x ∷ labels) i k = by (bytes_eq x.name name) (behind_ok b f name p labels i k.1) where
  by : (t : Bool) → IsLanding b f (behind name p labels) → IsLanding b f (cond t (Some (record { level = x.level; point = record p { rest = x.behind; labels = x ∷ labels } })) (behind name p labels))
  by true m = (k.0, (i.0, i.1, k, i.3))
  by false m = m
