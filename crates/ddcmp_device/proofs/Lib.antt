mod PaceLaws
