-- Proved, by name: each statement of Claims. Assumes nothing.
use Rattle.order_laws.specs.Claims.{SameExactly, ValidBoth, OrderNoAccount, BothLeft, ActionFound, AlongActions, ActionsFound, SearchesAgree}
use Rattle.order_laws.proofs.Found as found
use Rattle.order_laws.proofs.Kept as kept
use Rattle.order_laws.proofs.Steps as steps

pub same-exactly : SameExactly
same-exactly = found.same-exactly

pub valid-both : ValidBoth
valid-both t p q s = kept.valid_same s t

pub order-no-account : OrderNoAccount
order-no-account = steps.step_same

pub both_left : BothLeft
both_left = steps.both_left

pub action-found : ActionFound
action-found = found.action-found

pub along-actions : AlongActions
along-actions = steps.along-actions

pub actions-found : ActionsFound
actions-found = steps.actions-found

pub searches-agree : SearchesAgree
searches-agree = steps.searches-agree
