use Rattle.html_pages.proofs.PostedTags.{document_until_posts_its_content}
use Rattle.html_pages.proofs.law.documents_that_are_left_post_their_content.Goals as goal

pub returns : goal.returns
returns c = document_until_posts_its_content
