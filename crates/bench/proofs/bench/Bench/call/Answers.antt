use Rattle.std.proofs.Common.{rules}
use Rattle.bench.proofs.bench.Bench.call.Goals as goal

pub returns-in-Zero-clause-called : goal.returns-in-Zero-clause-called
returns-in-Zero-clause-called g c = rw c.in-Zero.is (c.zero.ensures c.args.workspace.now)

pub returns-in_ok-frame-in-Frame-clause-called : goal.returns-in_ok-frame-in-Frame-clause-called
returns-in_ok-frame-in-Frame-clause-called g c = let called = c.in_ok-frame-in-Frame.ensures c.args.workspace.now in search rules

pub returns-in_err-frame-in-Frame-clause-called : goal.returns-in_err-frame-in-Frame-clause-called
returns-in_err-frame-in-Frame-clause-called g c = let called = c.in_err-frame-in-Frame.ensures c.args.workspace.now in search rules

pub returns-in_ok-window-in-Window-clause-called : goal.returns-in_ok-window-in-Window-clause-called
returns-in_ok-window-in-Window-clause-called g c = let called = c.in_ok-window-in-Window.ensures c.args.workspace.now in search rules

pub returns-in_err-window-in-Window-clause-called : goal.returns-in_err-window-in-Window-clause-called
returns-in_err-window-in-Window-clause-called g c = let called = c.in_err-window-in-Window.ensures c.args.workspace.now in search rules

pub returns-in_ok-off-in-Off-clause-called : goal.returns-in_ok-off-in-Off-clause-called
returns-in_ok-off-in-Off-clause-called g c = let called = c.in_ok-off-in-Off.ensures c.args.workspace.now in search rules

pub returns-in_err-off-in-Off-clause-called : goal.returns-in_err-off-in-Off-clause-called
returns-in_err-off-in-Off-clause-called g c = let called = c.in_err-off-in-Off.ensures c.args.workspace.now in search rules
