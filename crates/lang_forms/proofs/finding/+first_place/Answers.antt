use Rattle.std.proofs.Common.{◌≡◌, ◌≤◌, List, [], ◌∷◌, length, get_or, map, ap, ◌∙◌, arith}
use Rattle.lang_tree.specs.declared.tree.Expr.{Expr}
use Rattle.lang_forms.specs.declared.scope.Entry.{Entry}
use Rattle.lang_forms.specs.Sense.{first_of, sense}
use Rattle.lang_forms.proofs.SenseLayers.{sense-Product, sense-Sum, sense-Compare, sense-Both, sense-Either}
use Rattle.lang_forms.proofs.finding.+first_place.Goals as goal

first_of-first : (scope : List Entry) (parts : List Expr) (part : Expr) → 1 ≤ length parts → part ≡ get_or parts 0 part → (sense scope part).first ≡ first_of (map (sense scope) parts)
first_of-first scope [] part some is = absurd (omega arith)
first_of-first scope (first ∷ parts) part some is = ap (λ e. (sense scope e).first) is

pub first_of-returns-in-len1-up : goal.first_of-returns-in-len1-up
first_of-returns-in-len1-up t c = λ scope. c.first_place.ensures scope ∙ first_of-first scope c.args.parts.now c.part-item.result c.in-len1-up.len_at_least c.part-item.is

pub first_place-returns-in-Product : goal.first_place-returns-in-Product
first_place-returns-in-Product t c = λ scope. rw (c.in-Product.is, sense-Product) (cc (c.first_place.ensures scope))

pub first_place-returns-in-Sum : goal.first_place-returns-in-Sum
first_place-returns-in-Sum t c = λ scope. rw (c.in-Sum.is, sense-Sum) (cc (c.first_place-in-Sum.ensures scope))

pub first_place-returns-in-Compare : goal.first_place-returns-in-Compare
first_place-returns-in-Compare t c = λ scope. rw (c.in-Compare.is, sense-Compare) (cc (c.first_place-in-Compare.ensures scope))

pub first_place-returns-in-Both : goal.first_place-returns-in-Both
first_place-returns-in-Both t c = λ scope. rw (c.in-Both.is, sense-Both) (cc (c.first_of.ensures scope))

pub first_place-returns-in-Either : goal.first_place-returns-in-Either
first_place-returns-in-Either t c = λ scope. rw (c.in-Either.is, sense-Either) (cc (c.first_of-in-Either.ensures scope))
