use Rattle.login_request.proofs.asking.bounds_of.Goals as goal

pub returns : goal.returns
returns c = record {
  registry = c.parties-parties.ensures.registry;
  party = c.requires.party;
  issuer_text = c.as_str-issuer.ensures.utf8;
  short_issuer = c.requires.issuer;
  state_word = c.know_word.ensures;
  nonce_word = c.know_word-2.ensures;
}
