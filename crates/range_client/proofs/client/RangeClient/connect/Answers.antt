use Rattle.std.proofs.Common.{◌≡◌, ℕ, List, ap, sym, subst, ◌∙◌, Some, None}
use Rattle.byte_links.specs.Link.{LinkState}
use Rattle.range_client.specs.Exchanges.{Spoken}
use Rattle.range_client.specs.Client.{ClientState, Connected, IsSound, Refused}
use Rattle.range_client.proofs.Clients.{connected, connected_sound, refused}
use Rattle.range_client.proofs.client.RangeClient.connect.Goals as goal

pub invariant_of-result : goal.invariant_of-result
invariant_of-result g c =
    let path : c.in-Ok.speaker.path ≡ c.args.path.now = ap (λ (s : Spoken). s.path) c.in-Ok.ensures in
    subst (λ (p : List ℕ). IsSound (g.L.Link.shown c.ask.new.link) p c.in-Ok-ask.size None) (sym c.ask.ensures.path)
    (connected_sound (g.L.Link.shown c.args.link) (g.L.Link.shown c.ask.new.link) c.in-Ok.speaker.path c.ask.new.self.head
    (λ image is. let start = c.requires.served image is in (start.0, path ∙ start.1)) c.ask.new.into c.in-Ok-ask.size c.in-Ok-ask.ensures.ok)

-- a client as it is made
made : LinkState → List ℕ → ℕ → List (ℕ × ℕ) → List ℕ → ClientState
made link path size asked head = record { link = link; path = path; size = size; asked = Some asked; spent = None; faults = 0; head = head }

pub returns-in-Ok-ask-clause-ok : goal.returns-in-Ok-ask-clause-ok
unfolding made
returns-in-Ok-ask-clause-ok g c =
    let path : c.in-Ok.speaker.path ≡ c.args.path.now = ap (λ (s : Spoken). s.path) c.in-Ok.ensures in
    subst (λ (p : List ℕ). Connected (g.L.Link.shown c.args.link) p (made (g.L.Link.shown c.ask.new.link) c.ask.new.self.path c.in-Ok-ask.size c.new-in-Ok-ask.result.items c.ask.new.self.head)) path
    (connected (g.L.Link.shown c.args.link) (g.L.Link.shown c.ask.new.link) c.in-Ok.speaker.path c.ask.new.self.head
    (λ image is. let start = c.requires.served image is in (start.0, path ∙ start.1)) c.ask.new.into c.in-Ok-ask.size
    (made (g.L.Link.shown c.ask.new.link) c.ask.new.self.path c.in-Ok-ask.size c.new-in-Ok-ask.result.items c.ask.new.self.head)
    c.in-Ok-ask.ensures.ok
    (ap (λ (p : List ℕ). made (g.L.Link.shown c.ask.new.link) p c.in-Ok-ask.size c.new-in-Ok-ask.result.items c.ask.new.self.head) c.ask.ensures.path
    ∙ ap (λ (a : List (ℕ × ℕ)). made (g.L.Link.shown c.ask.new.link) c.in-Ok.speaker.path c.in-Ok-ask.size a c.ask.new.self.head) c.new-in-Ok-ask.ensures.items))

pub returns-in-Err-ask-clause-refused : goal.returns-in-Err-ask-clause-refused
returns-in-Err-ask-clause-refused g c =
    let path : c.in-Ok.speaker.path ≡ c.args.path.now = ap (λ (s : Spoken). s.path) c.in-Ok.ensures in
    subst (λ (p : List ℕ). Refused p (g.L.Link.shown c.args.link) (g.L.Link.shown c.ask.new.link) c.into_error.result) path
    (refused (g.L.Link.shown c.args.link) (g.L.Link.shown c.ask.new.link) c.in-Ok.speaker.path c.ask.new.self.head
    (λ image is. let start = c.requires.served image is in (start.0, path ∙ start.1)) c.in-Err-ask.fault c.into_error.result c.in-Err-ask.ensures.err c.into_error.ensures)
