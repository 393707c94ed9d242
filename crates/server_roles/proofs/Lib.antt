pub mod ReadCookies
