-- Bodies that the law covers, so that its premise is no empty one.
use Rattle.std.proofs.Common.{ℕ, ◌+◌, ◌<◌, ◌^◌, Bool, false, List, lit<, lit≤, true, [], ◌∷◌, Option, Some, refl, arith}
use Rattle.std.specs.Prelude.{codes}
use Rattle.code_core.specs.Opcode.{opcodes, number_of}
use Rattle.tree_core.specs.declared.name.Place.TheVariants.{Local as LocalPlace}
use Rattle.tree_core.specs.Tree.{Block, Body, Index, LocalFunction, Do, While, Repeat, NumFor, NumForStep, GenFor, Label, Goto, Break, EndExps, MoreExps}
use Rattle.code_means.specs.Means.{Means}
use Rattle.tree_terms.proofs.Forms.{name, no_variable, of_local, loc, outer, int, call, block, returning, loc_is, locals, closed, assigns, assign, global, when, fun, function, does}
use Rattle.code_of.specs.CodeOf.{code_of}
use Rattle.code_of.specs.Sizes.{block_size}
use Rattle.stat_laws.specs.Fits.{BodyFits}
use Rattle.stat_laws.proofs.Whole.{means}

-- function(f) local x=0 while f(x) do if f(1) then break end end return x,f end
abbrev calls_on : Body
calls_on = fun ("f" ∷ []) [] (returning (
    loc_is "x" 1 (int 0) ∷ While 1 (call (loc "f" 0) (loc "x" 1 ∷ [])) (block (when (call (loc "f" 0) (int 1 ∷ [])) (Break 1 ∷ []) ∷ [])) ∷ [])
    (loc "x" 1 ∷ loc "f" 0 ∷ []))

abbrev source : Option (List ℕ)
source = Some (codes "@s.lua")

it_fits : BodyFits source calls_on
unfolding opcodes number_of
it_fits = (
  record {
    small = lit< tt;
    short = lit≤ tt;
    room = lit≤ tt;
    placed = (
      (
        (((λ e. absurd (cc)), tt), (lit≤ tt, (lit≤ tt, lit< tt))),
        (((lit< tt, (lit< tt, tt)), (lit≤ tt, (((lit< tt, ((λ e. absurd (cc)), tt)), (lit≤ tt, ((refl, tt), tt))), tt))), tt),
      ),
      ((lit< tt, (lit< tt, tt)), (lit≤ tt, lit< tt)),
    );
  },
  (((tt, tt), (((tt, (tt, tt)), ((((tt, (tt, tt)), ((tt, tt), tt))), tt)), tt)), (tt, (tt, tt))),
)

its_code_means_it : Means true (code_of source calls_on) calls_on
its_code_means_it = means source calls_on it_fits

-- function(f) local x=0 ::top:: x=f(x) if x then goto top end local function g() return x end return g(f) end
abbrev gives_x : Body
gives_x = fun [] (of_local "x" 1 ∷ []) (returning [] (outer "x" 0 ∷ []))

abbrev goes_back : Body
goes_back = fun ("f" ∷ []) [] (returning (
    loc_is "x" 1 (int 0) ∷ Label 1 (no_variable "top") ∷ assign (loc "x" 1) (call (loc "f" 0) (loc "x" 1 ∷ [])) ∷ when (loc "x" 1) (Goto 1 (no_variable "top") ∷ [])
    ∷ LocalFunction 1 (name "g" (LocalPlace 2)) gives_x ∷ [])
    (call (loc "g" 2) (loc "f" 0 ∷ []) ∷ []))

inner_fits : BodyFits source gives_x
unfolding opcodes number_of
inner_fits = (record { small = lit< tt; short = lit≤ tt; room = lit≤ tt; placed = (tt, ((lit< tt, tt), (lit≤ tt, lit< tt))) }, (tt, (tt, tt)))

this_fits : BodyFits source goes_back
unfolding opcodes number_of
this_fits = (
  record {
    small = lit< tt;
    short = lit≤ tt;
    room = lit≤ tt;
    placed = (
      (
        (((λ e. absurd (cc)), tt), (lit≤ tt, (lit≤ tt, lit< tt))),
        (
          tt,
          (
            ((tt, (lit< tt, (lit≤ tt, tt))), (((lit< tt, (lit< tt, tt)), tt), (lit≤ tt, (lit≤ tt, lit< tt)))),
            (
              (lit< tt, (lit≤ tt, ((refl, tt), tt))),
              (
                (record { prototype = code_of source gives_x; there = refl; near = lit< tt; upvalues = refl; alike = λ n lt. absurd (omega arith) }, (((λ e. (lit< tt, (tt, (tt, refl)))), tt), lit< tt)),
                tt,
              ),
            ),
          ),
        ),
      ),
      (lit< tt, ((lit< tt, tt), (lit≤ tt, lit≤ tt))),
    );
  },
  (((tt, tt), (tt, (((tt, tt), ((tt, (tt, tt)), tt)), ((tt, ((tt, tt), tt)), ((refl, inner_fits), tt))))), ((tt, (tt, tt)), tt)),
)

its_code_means_this : Means true (code_of source goes_back) goes_back
its_code_means_this = means source goes_back this_fits

-- function(t,k) t[k],n,k=1,k,t end
abbrev stores_many : Body
stores_many = fun ("t" ∷ "k" ∷ []) (of_local "_ENV" 0 ∷ []) (block (
    assigns (Index 1 (loc "t" 0) (loc "k" 1) ∷ global "n" ∷ loc "k" 1 ∷ []) (int 1 ∷ loc "k" 1 ∷ loc "t" 0 ∷ []) ∷ []))

many_fit : BodyFits source stores_many
unfolding opcodes number_of
many_fit = (
  record {
    small = lit< tt;
    short = lit≤ tt;
    room = lit≤ tt;
    placed = (
      (
        (
          (tt, ((lit< tt, lit< tt), (lit≤ tt, (tt, ((lit< tt, record { near = lit< tt; there = refl }), (lit≤ tt, (tt, (lit< tt, (lit≤ tt, tt))))))))),
          (((λ e. absurd (cc)), (lit< tt, (lit< tt, tt))), (lit≤ tt, (lit≤ tt, lit< tt))),
        ),
        tt,
      ),
      lit≤ tt,
    );
  },
  ((((tt, tt), (tt, (tt, tt))), (tt, (tt, (tt, tt)))), tt),
)

its_code_means_many : Means true (code_of source stores_many) stores_many
its_code_means_many = means source stores_many many_fit

-- function(f) local x<close>=f() return f(x) end
abbrev closes_one : Body
closes_one = fun ("f" ∷ []) [] (returning (locals (closed "x" 1 ∷ []) (call (loc "f" 0) [] ∷ []) ∷ []) (call (loc "f" 0) (loc "x" 1 ∷ []) ∷ []))

one_fits : BodyFits source closes_one
unfolding opcodes number_of
one_fits = (
  record {
    small = lit< tt;
    short = lit≤ tt;
    room = lit≤ tt;
    placed = (
      ((((lit< tt, tt), tt), (lit≤ tt, (lit≤ tt, lit< tt))), tt),
      (((lit< tt, (lit< tt, tt)), tt), (lit≤ tt, lit< tt)),
    );
  },
  ((((tt, tt), tt), tt), ((tt, (tt, tt)), tt)),
)

its_code_means_one : Means true (code_of source closes_one) closes_one
its_code_means_one = means source closes_one one_fits

-- function(f) do local x<close>=f() end do local y<close>=f() end end
abbrev closes_two : Body
closes_two = fun ("f" ∷ []) [] (block (
    Do 1 (block (locals (closed "x" 1 ∷ []) (call (loc "f" 0) [] ∷ []) ∷ [])) ∷ Do 1 (block (locals (closed "y" 1 ∷ []) (call (loc "f" 0) [] ∷ []) ∷ [])) ∷ []))

two_fit : BodyFits source closes_two
unfolding opcodes number_of
two_fit = (
  record {
    small = lit< tt;
    short = lit≤ tt;
    room = lit≤ tt;
    placed = (
      (
        ((((lit< tt, tt), tt), (lit≤ tt, (lit≤ tt, lit< tt))), tt),
        (((((lit< tt, tt), tt), (lit≤ tt, (lit≤ tt, lit< tt))), tt), tt),
      ),
      lit≤ tt,
    );
  },
  ((((tt, tt), tt), tt), ((((tt, tt), tt), tt), tt)),
)

its_code_means_two : Means true (code_of source closes_two) closes_two
its_code_means_two = means source closes_two two_fit

-- function(f) for k in f do end end
abbrev goes_through : Body
goes_through = fun ("f" ∷ []) [] (block (GenFor 1 (name "k" (LocalPlace 5) ∷ []) (MoreExps (loc "f" 0) EndExps) (block []) ∷ []))

through_fits : BodyFits source goes_through
unfolding opcodes number_of
through_fits = (
  record {
    small = lit< tt;
    short = lit≤ tt;
    room = lit≤ tt;
    placed = ((((lit< tt, tt), (lit≤ tt, (lit≤ tt, (lit< tt, (lit< tt, ((λ back. lit< tt), tt)))))), tt), lit≤ tt);
  },
  (((tt, tt), tt), tt),
)

its_code_means_through : Means true (code_of source goes_through) goes_through
its_code_means_through = means source goes_through through_fits

-- function(f) for i=1,3 do for k=1,i do if f(k) then break end end end end
abbrev counts_up : Body
counts_up = fun ("f" ∷ []) [] (block (
    NumFor 1 (name "i" (LocalPlace 4)) (int 1) (int 3) (block (
    NumFor 1 (name "k" (LocalPlace 8)) (int 1) (loc "i" 4) (block (when (call (loc "f" 0) (loc "k" 8 ∷ [])) (Break 1 ∷ []) ∷ [])) ∷ []))
    ∷ []))

-- how long a jump is hangs on whether the function makes functions
either_way : (P : Bool → Type 0) → P true → P false → (b : Bool) → P b
either_way P x y true = x
either_way P x y false = y

abbrev inner_rounds : Block
inner_rounds = block (when (call (loc "f" 0) (loc "k" 8 ∷ [])) (Break 1 ∷ []) ∷ [])

abbrev outer_rounds : Block
outer_rounds = block (NumFor 1 (name "k" (LocalPlace 8)) (int 1) (loc "i" 4) (block (when (call (loc "f" 0) (loc "k" 8 ∷ [])) (Break 1 ∷ []) ∷ [])) ∷ [])

up_fits : BodyFits source counts_up
unfolding opcodes number_of
up_fits = (
  record {
    small = lit< tt;
    short = lit≤ tt;
    room = lit≤ tt;
    placed = (
      (
        (
          ((λ e. absurd (cc)), (lit≤ tt, ((λ e. absurd (cc)), lit≤ tt))),
          (
            lit≤ tt,
            (
              (λ back. either_way (λ closes. block_size (code_of source counts_up).own.constants (record { back = back.back; closes = closes }) outer_rounds false 4 5 0 + 2 < 2 ^ 17) (lit< tt) (lit< tt) back.closes),
              (
                (
                  ((λ e. absurd (cc)), (lit≤ tt, (lit< tt, lit≤ tt))),
                  (lit≤ tt, ((λ back. either_way (λ closes. block_size (code_of source counts_up).own.constants (record { back = back.back; closes = closes }) inner_rounds false 8 9 0 + 2 < 2 ^ 17) (lit< tt) (lit< tt) back.closes), (((lit< tt, (lit< tt, tt)), (lit≤ tt, ((refl, tt), tt))), tt))),
                ),
                tt,
              ),
            ),
          ),
        ),
        tt,
      ),
      lit≤ tt,
    );
  },
  ((tt, (tt, ((tt, (tt, (((tt, (tt, tt)), ((tt, tt), tt)), tt))), tt))), tt),
)

its_code_means_up : Means true (code_of source counts_up) counts_up
its_code_means_up = means source counts_up up_fits

-- function(f) for i=9,1,f do f(function() return i end) end end
abbrev gives_i : Body
gives_i = fun [] (of_local "i" 4 ∷ []) (returning [] (outer "i" 0 ∷ []))

abbrev counts_down : Body
counts_down = fun ("f" ∷ []) [] (block (
    NumForStep 1 (name "i" (LocalPlace 4)) (int 9) (int 1) (loc "f" 0) (block (does (call (loc "f" 0) (function gives_i ∷ [])) ∷ [])) ∷ []))

gives_i_fits : BodyFits source gives_i
unfolding opcodes number_of
gives_i_fits = (record { small = lit< tt; short = lit≤ tt; room = lit≤ tt; placed = (tt, ((lit< tt, tt), (lit≤ tt, lit< tt))) }, (tt, (tt, tt)))

down_fits : BodyFits source counts_down
unfolding opcodes number_of
down_fits = (
  record {
    small = lit< tt;
    short = lit≤ tt;
    room = lit≤ tt;
    placed = (
      (
        (
          ((λ e. absurd (cc)), (lit≤ tt, ((λ e. absurd (cc)), lit≤ tt))),
          (
            lit< tt,
            (
              lit≤ tt,
              (
                lit≤ tt,
                (
                  (λ back. lit< tt),
                  (
                    (
                      refl,
                      (
                        (
                          lit< tt,
                          (
                            (
                              record { prototype = code_of source gives_i; there = refl; near = lit< tt; upvalues = refl; alike = λ n lt. absurd (omega arith) },
                              ((λ e. (lit< tt, (((λ d. omega (arith, d)), ((λ d. omega (arith, d)), ((λ d. omega (arith, d)), tt))), (tt, refl)))), tt),
                            ),
                            tt,
                          ),
                        ),
                        lit≤ tt,
                      ),
                    ),
                    tt,
                  ),
                ),
              ),
            ),
          ),
        ),
        tt,
      ),
      lit≤ tt,
    );
  },
  ((tt, (tt, (tt, ((tt, ((refl, gives_i_fits), tt)), tt)))), tt),
)

its_code_means_down : Means true (code_of source counts_down) counts_down
its_code_means_down = means source counts_down down_fits

-- function(f) repeat return f() until f end
abbrev ends_at_once : Body
ends_at_once = fun ("f" ∷ []) [] (block (Repeat 1 (returning [] (call (loc "f" 0) [] ∷ [])) (loc "f" 0) ∷ []))

once_fits : BodyFits source ends_at_once
unfolding opcodes number_of
once_fits = (
  record {
    small = lit< tt;
    short = lit≤ tt;
    room = lit≤ tt;
    placed = ((((tt, (lit< tt, (tt, (lit≤ tt, lit≤ tt)))), (lit< tt, lit≤ tt)), tt), lit≤ tt);
  },
  (((tt, ((tt, tt), tt)), tt), tt),
)

its_code_means_once : Means true (code_of source ends_at_once) ends_at_once
its_code_means_once = means source ends_at_once once_fits
