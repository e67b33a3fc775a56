-- Items of a constructor: what is written of one that waits and of one that does not.
use Rattle.std.proofs.Common.{arith, ℕ, zero, suc, ◌+◌, ◌≡◌, Bool, true, false, cond, List, [], ◌++◌, refl, sym, ap, subst, ap₂, ◌∙◌, append-nil}
use Rattle.tree_core.specs.Tree.{Exp, Vararg, Call, Method}
use Rattle.code_core.specs.declared.proto.Const.{Const}
use Rattle.code_of.specs.Coded.{Coded}
use Rattle.code_of.specs.Expressions.{exp_code, made_by, set_list, waiting_code, item_code}
use Rattle.code_of.specs.Items.{waits, is_full, item_register, stored_behind, waiting_behind}
use Rattle.code_expr.specs.declared.items.Items.{Items}
use Rattle.code_emitter.specs.Listing.{Listing, listed, followed}
use Rattle.code_expr.specs.Parts.{so_many, item_behind, held_code, alone_code, one_item}
use Rattle.code_emitter.proofs.Joining.{listing, then_listed, listed_then}

-- what stores nothing

pub nothing_listed : (s : Listing) → s ≡ listed s []
nothing_listed s = ap (λ x. listing s.constants x s.made) (sym (append-nil s.steps))

pub none_waits : (s : Listing) (stored waiting t line : ℕ) → waiting ≡ 0 → s ≡ listed s (waiting_code stored waiting t line)
none_waits s stored waiting t line none = nothing_listed s ∙ ap (λ n. listed s (waiting_code stored n t line)) (sym none)

pub some_wait : (s q : Listing) (stored waiting t line : ℕ) → (waiting ≡ 0 → ⊥) → q ≡ listed s (set_list t waiting stored line) → q ≡ listed s (waiting_code stored waiting t line)
some_wait s q stored zero t line some written = absurd (some refl)
some_wait s q stored (suc more) t line some written = written

-- so many items as are stored at once, or fewer

module _ (s : Listing) (n : Items) (t line : ℕ) where
  abbrev count : ℕ
  count = n.stored + n.waiting

  abbrev either_stored : Bool → List Coded
  either_stored full = cond full (set_list t n.waiting n.stored line) []

  abbrev either_behind : Bool → Items
  either_behind full = cond full (so_many count 0) n

  pub few_stored : is_full count ≡ false → s ≡ listed s (either_stored (is_full count))
  few_stored few = nothing_listed s ∙ ap (λ b. listed s (either_stored b)) (sym few)

  pub few_behind : is_full count ≡ false → n ≡ either_behind (is_full count)
  few_behind few = ap either_behind (sym few)

  pub full_stored : (q : Listing) → is_full count ≡ true → q ≡ listed s (set_list t n.waiting n.stored line) → q ≡ listed s (either_stored (is_full count))
  full_stored q full written = written ∙ ap (λ b. listed s (either_stored b)) (sym full)

  pub full_behind : (all : ℕ) → is_full count ≡ true → all ≡ count → so_many all 0 ≡ either_behind (is_full count)
  full_behind all full counted = ap (λ m. so_many m 0) counted ∙ ap either_behind (sym full)

-- an item that waits

more_wait : (stored waiting held : ℕ) → held ≡ waiting + 1 → stored + held ≡ stored + waiting + 1
more_wait stored waiting held more = omega (arith, more)

pub held_written : (s v q : Listing) (e : Exp) (stored waiting held x t line : ℕ) → x ≡ t + 1 + waiting → held ≡ waiting + 1
    → v ≡ followed s (exp_code s.constants e x s.made 2) (made_by e) → q ≡ listed v (cond (is_full (stored + held)) (set_list t held stored line) [])
    → q ≡ followed s (held_code (is_full (stored + waiting + 1)) (exp_code s.constants e (t + 1 + waiting) s.made 2) stored waiting t line) (made_by e)
held_written s v q e stored waiting held x t line at more value store =
    then_listed s v q (exp_code s.constants e x s.made 2) (made_by e) (λ k. cond (is_full (stored + held)) (set_list t held stored line) []) value store
    ∙ ap (λ y. followed s (exp_code s.constants e y s.made 2 ++ cond (is_full (stored + held)) (set_list t held stored line) []) (made_by e)) at
    ∙ ap₂ (λ n y. followed s (exp_code s.constants e (t + 1 + waiting) s.made 2 ++ cond (is_full n) (set_list t y stored line) []) (made_by e)) (more_wait stored waiting held more) more

held_behind_by : (full : Bool) (stored waiting : ℕ) → cond full (so_many (stored + waiting + 1) 0) (so_many stored (waiting + 1)) ≡ so_many (stored_behind true full stored waiting) (waiting_behind true full waiting)
held_behind_by true stored waiting = refl
held_behind_by false stored waiting = refl

pub held_behind : (n : Items) (held : ℕ) → held ≡ n.waiting + 1 → cond (is_full (n.stored + held)) (so_many (n.stored + held) 0) (so_many n.stored held) ≡ item_behind true n
held_behind n held more =
    ap₂ (λ m y. cond (is_full m) (so_many m 0) (so_many n.stored y)) (more_wait n.stored n.waiting held more) more ∙ held_behind_by (is_full (n.stored + n.waiting + 1)) n.stored n.waiting

-- one that does not wait

pub alone_written : (s r v q : Listing) (e : Exp) (c b stored waiting x t line : ℕ) → r ≡ listed s (waiting_code stored waiting t line)
    → v ≡ followed r (exp_code r.constants e x r.made c) (made_by e) → q ≡ listed v (set_list t b (stored + waiting) line)
    → q ≡ followed s (alone_code (exp_code s.constants e x s.made c) stored waiting b t line) (made_by e)
alone_written s r v q e c b stored waiting x t line before value store =
    listed_then s r q (waiting_code stored waiting t line) (λ k j. exp_code k e x j c ++ set_list t b (stored + waiting) line) (made_by e) before
    (then_listed r v q (exp_code r.constants e x r.made c) (made_by e) (λ k. set_list t b (stored + waiting) line) value store)

-- any item

-- the field C of one that waits is of no account
of_no_account : (k : List Const) (e : Exp) (t j c : ℕ) → waits e ≡ true → exp_code k e t j c ≡ exp_code k e t j 2
of_no_account k (Vararg line) t j c w = absurd (cc)
of_no_account k (Call line f es) t j c w = absurd (cc)
of_no_account k (Method line object name es) t j c w = absurd (cc)
of_no_account k _ t j c w = refl

held_is : (full : Bool) (code : List Coded) (stored waiting b t line : ℕ) → held_code full code stored waiting t line ≡ item_code true full code stored waiting b t line
held_is true code stored waiting b t line = refl
held_is false code stored waiting b t line = append-nil code

module _ (k : List Const) (e : Exp) (whole : Bool) (n : Items) (t j line : ℕ) where
  abbrev by_waiting : Bool → List Coded
  by_waiting wait = item_code wait (is_full (n.stored + n.waiting + 1)) (exp_code k e (item_register wait t n.waiting) j (cond whole 0 2)) n.stored n.waiting (cond whole 0 1) t line

  one_waits : waits e ≡ true → held_code (is_full (n.stored + n.waiting + 1)) (exp_code k e (t + 1 + n.waiting) j 2) n.stored n.waiting t line ≡ one_item k e whole n t j line
  one_waits w =
      ap (λ code. held_code (is_full (n.stored + n.waiting + 1)) code n.stored n.waiting t line) (sym (of_no_account k e (t + 1 + n.waiting) j (cond whole 0 2) w))
      ∙ held_is (is_full (n.stored + n.waiting + 1)) (exp_code k e (t + 1 + n.waiting) j (cond whole 0 2)) n.stored n.waiting (cond whole 0 1) t line
      ∙ ap by_waiting (sym w)

  one_alone : waits e ≡ false → alone_code (exp_code k e (t + 1) j (cond whole 0 2)) n.stored n.waiting (cond whole 0 1) t line ≡ one_item k e whole n t j line
  one_alone w = ap by_waiting (sym w)

-- and the code of an item goes behind what is listed

pub item_held : (s q : Listing) (e : Exp) (whole : Bool) (n : Items) (t line : ℕ) → waits e ≡ true
    → q ≡ followed s (held_code (is_full (n.stored + n.waiting + 1)) (exp_code s.constants e (t + 1 + n.waiting) s.made 2) n.stored n.waiting t line) (made_by e)
    → q ≡ followed s (one_item s.constants e whole n t s.made line) (made_by e)
item_held s q e whole n t line w h = subst (λ code. q ≡ followed s code (made_by e)) (one_waits s.constants e whole n t s.made line w) h

pub item_alone : (s q : Listing) (e : Exp) (whole : Bool) (n : Items) (t line : ℕ) → waits e ≡ false
    → q ≡ followed s (alone_code (exp_code s.constants e (t + 1) s.made (cond whole 0 2)) n.stored n.waiting (cond whole 0 1) t line) (made_by e)
    → q ≡ followed s (one_item s.constants e whole n t s.made line) (made_by e)
item_alone s q e whole n t line w h = subst (λ code. q ≡ followed s code (made_by e)) (one_alone s.constants e whole n t s.made line w) h
