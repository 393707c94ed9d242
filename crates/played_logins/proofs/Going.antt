-- How a play at the moment 1000 goes on by one place: a line sends a request for which there is room, and the role's reply is known from a
-- legal world.
use Rattle.std.proofs.Common.{◌≡◌, ℕ, suc, ◌+◌, Bool, true, cond, List, [], ◌∷◌, length, replicate, Some, None, nat_le, refl, sym, ap, ◌∙◌}
use Rattle.sso_base.specs.Journal.{most_of}
use Rattle.sso_base.specs.Legal.{last_moment}
use Rattle.sso_base.specs.Words.{Word}
use Rattle.sso_base.specs.declared.history.Entry.{Entry}
use Rattle.sso_base.specs.declared.http.Ask.{Ask}
use Rattle.client_registry.specs.Configuration.{Configuration}
use Rattle.op_exchange.specs.declared.ask.OpAsk.{OpAsk}
use Rattle.op_exchange.specs.declared.reply.OpReply.{OpReply}
use Rattle.op_exchange.specs.Weight.{ask_weight as op_weight}
use Rattle.op_request.specs.Prepared.{prepared as op_prepared}
use Rattle.op_answer.specs.Answering.{op_answer}
use Rattle.op_answer.specs.Past.{OpPair, OpPast}
use Rattle.rp_exchange.specs.declared.ask.RpAsk.{RpAsk}
use Rattle.rp_exchange.specs.declared.reply.RpReply.{RpReply}
use Rattle.rp_exchange.specs.Weight.{ask_weight as rp_weight}
use Rattle.rp_answer.specs.Answering.{rp_answer}
use Rattle.rp_answer.specs.Past.{RpPair, RpPast}
use Rattle.sso_places.specs.declared.types.To.TheVariants as to
use Rattle.sso_places.specs.declared.types.WorldAsk.{WorldAsk}
use Rattle.sso_places.specs.Legal.{IsLegalWorld, party_prepared}
use Rattle.sso_places.specs.Site.{own_site, setup_at}
use Rattle.sso_places.specs.World.{Place, Provider, Party, World, op_past, rp_past}
use Rattle.sso_places.proofs.Places.{party_legal}
use Rattle.cookie_jars.specs.declared.jar_note.JarNote.{JarNote}
use Rattle.cookie_jars.specs.Jars.{jars_after}
use Rattle.running_world.specs.Stepping.{later, stepped, role_weight}
use Rattle.trace_lines.specs.declared.line.Line.{Line}
use Rattle.trace_lines.specs.declared.line.Line.TheVariants.{At}
use Rattle.web_requests.specs.declared.sent.Sent.{Sent}
use Rattle.web_requests.specs.Sending.{sent}
use Rattle.oidc_replay.specs.Words.{words_after}
use Rattle.oidc_replay.specs.Sending.{line_sent}
use Rattle.oidc_replay.specs.Play.{Played, with_place, has_room, asked_if, line_played, play_on, play_lines}

-- the seed, of which `word n` is the word of the number n
abbrev pub zeros : List ℕ
zeros = replicate 24 0

-- the cookies that browsers have after a world, and the play that made it
abbrev pub jars_in : World → List JarNote
jars_in [] = []
jars_in (x ∷ world) = jars_after x (jars_in world)

abbrev pub played_to : World → Played
played_to world = record { world = world; jars = jars_in world; at = 1000; ended = None }

-- the lines make the world
unfoldable pub Makes : Configuration → List Line → World → Type 0
Makes c lines world = play_lines c zeros lines ≡ played_to world

pub nothing_made : (c : Configuration) → Makes c (At 1000 ∷ []) []
unfolding Makes
nothing_made c = refl

-- the line makes a place
abbrev pub TakesPlace : Configuration → Line → Type 0
TakesPlace c line = (play : Played) → line_played c zeros play line ≡ asked_if c zeros play (line_sent c play.world play.jars line)

module _ (c : Configuration) (lines : List Line) (world : World) (so_far : Makes c lines world) (line : Line) (takes : TakesPlace c line) where
  abbrev before : Played
  before = played_to world

  abbrev fresh : List Word
  fresh = words_after zeros (length world)

  abbrev reply_to : Sent → Place
  reply_to s = stepped (own_site c) s.from s.to 1000 fresh s.ask world

  goes_on : (s : Sent) (x : Place) → line_sent c world (jars_in world) line ≡ Some s → has_room c world s ≡ true → reply_to s ≡ x → Makes c (line ∷ lines) (x ∷ world)
  unfolding Makes
  goes_on s x sends room replied =
      let R : Bool → Played = λ b. cond b (with_place before (reply_to s)) (record before { ended = Some (suc (length world)) }) in
      ap (λ (p : Played). play_on c zeros p line) so_far ∙ takes before ∙ ap (asked_if c zeros before) sends ∙ ap R room ∙ ap (with_place before) replied

  -- ---- the provider is asked

  module _ (from : ℕ) (request : Ask) (drawn : List Word) (asked : OpAsk) (reply : OpReply) where
    abbrev op_entry : ℕ → List Word → OpAsk → Entry OpAsk
    op_entry at words a = record { at = at; fresh = words; ask = a }

    abbrev op_pair : OpReply → OpPair
    op_pair r = record { entry = op_entry 1000 drawn asked; reply = r }

    pub asks_provider : IsLegalWorld (own_site c) (Provider from request (op_pair reply) ∷ world) → later (last_moment (op_past world)) 1000 ≡ 1000 → fresh ≡ drawn
        → line_sent c world (jars_in world) line ≡ Some (sent from to.Provider request) → nat_le (role_weight to.Provider world + op_weight asked) (most_of c.lasting) ≡ true
        → Makes c (line ∷ lines) (Provider from request (op_pair reply) ∷ world)
    asks_provider legal in_time draws sends room =
        let past : OpPast = op_past world in
        let G : ℕ → List Word → OpAsk → Place = λ at words a. Provider from request (record { entry = op_entry at words a; reply = op_answer c past (op_entry at words a) }) in
        let P : OpReply → Place = λ r. Provider from request (op_pair r) in
        let W : OpAsk → Bool = λ a. nat_le (role_weight to.Provider world + op_weight a) (most_of c.lasting) in
        let read : op_prepared c request ≡ asked = sym legal.asked.0 in
        let there : reply_to (sent from to.Provider request) ≡ P reply =
        ap (λ (at : ℕ). G at fresh (op_prepared c request)) in_time ∙ ap (λ (words : List Word). G 1000 words (op_prepared c request)) draws ∙ ap (G 1000 drawn) read ∙ ap P (sym legal.provider.3) in
        goes_on (sent from to.Provider request) (P reply) sends (ap W read ∙ room) there

  -- ---- the party of a number is asked

  module _ (n from : ℕ) (request : WorldAsk) (drawn : List Word) (asked : RpAsk) (reply : RpReply) where
    abbrev rp_entry : ℕ → List Word → RpAsk → Entry RpAsk
    rp_entry at words a = record { at = at; fresh = words; ask = a }

    abbrev rp_pair : RpReply → RpPair
    rp_pair r = record { entry = rp_entry 1000 drawn asked; reply = r }

    abbrev party_sent : Sent
    party_sent = record { from = from; to = to.Party n; ask = request }

    pub asks_party : IsLegalWorld (own_site c) (Party n from request (rp_pair reply) ∷ world) → later (last_moment (rp_past n world)) 1000 ≡ 1000 → fresh ≡ drawn
        → line_sent c world (jars_in world) line ≡ Some party_sent → nat_le (role_weight (to.Party n) world + rp_weight asked) (most_of c.lasting) ≡ true
        → Makes c (line ∷ lines) (Party n from request (rp_pair reply) ∷ world)
    asks_party legal in_time draws sends room =
        let past : RpPast = rp_past n world in
        let G : ℕ → List Word → RpAsk → Place = λ at words a. Party n from request (record { entry = rp_entry at words a; reply = rp_answer (setup_at (own_site c) n) past (rp_entry at words a) }) in
        let P : RpReply → Place = λ r. Party n from request (rp_pair r) in
        let W : RpAsk → Bool = λ a. nat_le (role_weight (to.Party n) world + rp_weight a) (most_of c.lasting) in
        let read : party_prepared c n request ≡ asked = sym legal.asked.0.1 in
        let own = party_legal (own_site c) n from request (rp_pair reply) world legal in
        let there : reply_to party_sent ≡ P reply =
        ap (λ (at : ℕ). G at fresh (party_prepared c n request)) in_time ∙ ap (λ (words : List Word). G 1000 words (party_prepared c n request)) draws ∙ ap (G 1000 drawn) read ∙ ap P (sym own.3) in
        goes_on party_sent (P reply) sends (ap W read ∙ room) there
