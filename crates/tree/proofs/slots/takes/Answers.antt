-- `tree::slots::takes` meets its contract.
use Rattle.spec.specs.Kinds.{takes}
use Rattle.tree.specs.Slots.{slot_of}
use Rattle.tree.specs.declared.slots.Slot.TheVariants.{Path, Attribute, Entry, Part, Parameter, From, Bind, PatternEntry}
use Rattle.tree.proofs.SlotLaws.{taken_alone, no_string, no_name, expression_alone, beyond}
use mathlib.Core.Logic.{inl, inr}
use native.Mathlib.Omega.{arith}
use Rattle.tree.proofs.slots.takes.Goals as goal

pub returns-in-Expression : goal.returns-in-Expression
unfolding takes slot_of
returns-in-Expression c = elim c.in-Expression.is [ inl e ↦ rw (e, c.in-6.is) | inr e ↦ rw (e, c.in-6.is) ]

pub returns-in_default-matches : goal.returns-in_default-matches
returns-in_default-matches c = no_string _ _ c.in-6.is c.in_default-matches.not-Expression c.in_default-matches.not-Attribute

pub returns-in-Expression-matches : goal.returns-in-Expression-matches
unfolding takes slot_of
returns-in-Expression-matches c =
    elim c.in-Expression-matches.is [
      | inl e ↦ rw (e, c.in-18.is)
      | inr (inl e) ↦ rw (e, c.in-18.is)
      | inr (inr e) ↦ rw (e, c.in-18.is)
    ]

pub returns-in_default-matches-2 : goal.returns-in_default-matches-2
returns-in_default-matches-2 c =
    no_name _ _ c.in-18.is c.in_default-matches-2.not-Expression c.in_default-matches-2.not-Attribute c.in_default-matches-2.not-Ident

pub returns-in-23 : goal.returns-in-23
unfolding takes slot_of
returns-in-23 c = taken_alone Path 23 1 tt _ (omega arith) (omega arith) _ _ c.eq.ensures

pub returns-in-24 : goal.returns-in-24
unfolding takes slot_of
returns-in-24 c = taken_alone Attribute 24 1 tt _ (omega arith) (omega arith) _ _ c.eq-in-24.ensures

pub returns-in-27 : goal.returns-in-27
unfolding takes slot_of
returns-in-27 c = taken_alone From 27 1 tt _ (omega arith) (omega arith) _ _ c.eq-in-27.ensures

pub returns-in-30 : goal.returns-in-30
unfolding takes slot_of
returns-in-30 c = taken_alone Bind 30 1 tt _ (omega arith) (omega arith) _ _ c.eq-in-30.ensures

pub returns-in-31 : goal.returns-in-31
unfolding takes slot_of
returns-in-31 c = taken_alone PatternEntry 31 1 tt _ (omega arith) (omega arith) _ _ c.eq-in-31.ensures

pub returns-in-1-to-22 : goal.returns-in-1-to-22
returns-in-1-to-22 c =
    expression_alone _ (omega arith) (omega arith) (λ e. omega arith) (λ e. omega arith) _ _ c.eq-in-1-to-22.ensures

pub returns-in-25-to-26 : goal.returns-in-25-to-26
unfolding takes slot_of
returns-in-25-to-26 c = taken_alone Entry 25 2 tt _ (omega arith) (omega arith) _ _ c.eq-in-25-to-26.ensures

pub returns-in-28-to-29 : goal.returns-in-28-to-29
unfolding takes slot_of
returns-in-28-to-29 c = taken_alone Parameter 28 2 tt _ (omega arith) (omega arith) _ _ c.eq-in-28-to-29.ensures

pub returns-in-32-to-33 : goal.returns-in-32-to-33
unfolding takes slot_of
returns-in-32-to-33 c = taken_alone Part 32 2 tt _ (omega arith) (omega arith) _ _ c.eq-in-32-to-33.ensures

pub returns-in_default : goal.returns-in_default
returns-in_default c = beyond _ _ (λ h. omega arith)

pub returns-in_default-2 : goal.returns-in_default-2
returns-in_default-2 c = beyond _ _ (λ h. omega arith)
